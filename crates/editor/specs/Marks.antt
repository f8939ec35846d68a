-- Document 02, orders 5 and 8: the rules of the saved mark. They stand here once, over a mark and what is done: the
-- calls on a text use them with what is done there, and the ledger with what is done by its own count.
use Rattle.std.specs.Prelude.{ℕ, ◌+◌, ◌-◌, Bool, false, cond, ltb, eqb, Option, None, Some}

-- "a saved mark: the words done at the last accepted save, or none"
abbrev pub Mark : Type 0
Mark = Option ℕ

-- "an accepted replace made while the mark exceeds the words done sets it to none"
abbrev pub replaced_mark : ℕ → Mark → Mark
replaced_mark done None = None
replaced_mark done (Some n) = cond (ltb done n) None (Some n)

-- where steps that count for so much are folded into one that counts for so much: "strictly inside the fold becomes
-- none; one at its end or later moves along"; at 0 it stays
abbrev pub folded_mark : ℕ → ℕ → Mark → Mark
folded_mark old new None = None
folded_mark old new (Some n) = cond (eqb n 0) (Some 0) (cond (ltb n old) None (Some (n - old + new)))

-- "exactly when the mark equals the words done"
abbrev pub unchanged_at : ℕ → Mark → Bool
unchanged_at done None = false
unchanged_at done (Some n) = eqb n done
