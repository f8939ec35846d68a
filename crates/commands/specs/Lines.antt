-- A desk's line, as docs/DESK.md has it: `show`, `replace PLACE COUNT CELL..`, `undo`, `redo`, `save FILE`, `quit`,
-- `squeeze K` or `keep FILE`.
use Rattle.std.specs.Prelude.{ℕ, suc, ◌+◌, Bool, true, false, cond, not, ◌&&◌, ◌||◌, List, [], ◌∷◌, length, take, drop, eqb, Option, Some, None}
use Rattle.answer.specs.Bytes.{bytes}
use Rattle.codec.specs.declared.Format.{Format}
use Rattle.codec.specs.declared.Format.TheVariants as format
use Rattle.codec.specs.declared.Kind.{Kind}
use Rattle.codec.specs.declared.Kind.TheVariants.{Utf7Header, Utf7Body, Jp2}
use Rattle.commands.specs.declared.Verb.{Verb}
use Rattle.commands.specs.declared.Verb.TheVariants.{Nothing, Show, Replace, Undo, Redo, Save, Quit}
use Rattle.commands.specs.declared.Verb.TheVariants.{Squeeze, Keep, Unknown}
use Rattle.commands.specs.declared.Said.{Said}

-- space, tab, CR and LF part the words of a line
abbrev pub blank : ℕ → Bool
blank b = eqb b 32 || (eqb b 9 || (eqb b 13 || eqb b 10))

-- how many bytes at the front are blank, or are not
unfoldable pub stretch : Bool → List ℕ → ℕ
stretch blanks [] = 0
stretch blanks (b ∷ bs) = cond (cond blanks (blank b) (not (blank b))) (suc (stretch blanks bs)) 0

-- two lists of bytes are the same
unfoldable pub same : List ℕ → List ℕ → Bool
same [] [] = true
same [] (y ∷ ys) = false
same (x ∷ xs) [] = false
same (x ∷ xs) (y ∷ ys) = eqb x y && same xs ys

-- `show`, `replace`, `undo`, `redo`, `save`, `quit`, `squeeze`, `keep`
unfoldable pub verb_of : List ℕ → Verb
verb_of w =
    cond (same w []) Nothing
    (cond (same w (115 ∷ 104 ∷ 111 ∷ 119 ∷ [])) Show
    (cond (same w (114 ∷ 101 ∷ 112 ∷ 108 ∷ 97 ∷ 99 ∷ 101 ∷ [])) Replace
    (cond (same w (117 ∷ 110 ∷ 100 ∷ 111 ∷ [])) Undo
    (cond (same w (114 ∷ 101 ∷ 100 ∷ 111 ∷ [])) Redo
    (cond (same w (115 ∷ 97 ∷ 118 ∷ 101 ∷ [])) Save
    (cond (same w (113 ∷ 117 ∷ 105 ∷ 116 ∷ [])) Quit
    (cond (same w (115 ∷ 113 ∷ 117 ∷ 101 ∷ 101 ∷ 122 ∷ 101 ∷ [])) Squeeze
    (cond (same w (107 ∷ 101 ∷ 101 ∷ 112 ∷ [])) Keep Unknown))))))))

-- a line's command: its first word's; what follows begins at the next byte that is no blank
unfoldable pub said_in : List ℕ → Said
said_in line =
    let from = stretch true line in
    let size = stretch false (drop from line) in
    record {
      verb = verb_of (take size (drop from line));
      rest = from + size + stretch true (drop (from + size) line);
    }

-- "Kind is utf7h, utf7b or jp2", as document 02, order 6 names them
unfoldable pub kind_named : List ℕ → Option Kind
kind_named w =
    cond (same w (117 ∷ 116 ∷ 102 ∷ 55 ∷ 104 ∷ [])) (Some Utf7Header)
    (cond (same w (117 ∷ 116 ∷ 102 ∷ 55 ∷ 98 ∷ [])) (Some Utf7Body) (cond (same w (106 ∷ 112 ∷ 50 ∷ [])) (Some Jp2) None))

-- `page`, in a kind's place: a page that was kept
abbrev pub page_named : List ℕ → Bool
page_named w = same w (112 ∷ 97 ∷ 103 ∷ 101 ∷ [])

-- the names of texts, of whatever style, as same_letter takes them
unfoldable pub format_named : List ℕ → Option Format
format_named w =
    cond (same w (bytes "utf7")) (Some format.Utf7)
    (cond (same w (bytes "jp2")) (Some format.Jp2) (cond (same w (bytes "mailbox")) (Some format.Mailbox) None))
