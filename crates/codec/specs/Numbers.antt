-- The kinds by number, as they cross to C.
use Rattle.std.specs.Prelude.{ℕ, ◌≡◌, ◌<◌, Result, MatchResult}
use Rattle.codec.specs.declared.Kind.{Kind}
use Rattle.codec.specs.declared.Kind.TheVariants.{Utf7Header, Utf7Body, Jp2}
use Rattle.codec.specs.declared.NoKind.{NoKind}

unfoldable pub kind_number : Kind → ℕ
kind_number Utf7Header = 0
kind_number Utf7Body = 1
kind_number Jp2 = 2

-- the kind with this number, or an error with a number that no kind has
abbrev pub Decodes : ℕ → Result Kind NoKind → Type 0
Decodes number r = MatchResult r (λ kind. kind_number kind ≡ number) (λ e. (e.0 ≡ number) × (2 < number))
