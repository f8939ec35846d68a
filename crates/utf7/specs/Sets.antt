-- Document 01, "UTF-7": the sets D and O, and what stands for itself in each style of writing; and in mailbox names (document 02, order 1).
use Rattle.std.specs.Prelude.{ℕ, Bool, false, ◌&&◌, ◌||◌, not, List, [], ◌∷◌, eqb}
use Rattle.alphabet.specs.Letters.{within, slash, comma}
use Rattle.utf7.specs.declared.Style.{Style}
use Rattle.utf7.specs.declared.Style.TheVariants.{Header, Body, Name}

abbrev pub member : List ℕ → ℕ → Bool
member [] u = false
member (a ∷ rest) u = eqb u a || member rest u

-- letters and digits
unfoldable pub alphanumeric : ℕ → Bool
alphanumeric u = within 65 90 u || (within 97 122 u || within 48 57 u)

-- ' ( ) , - . / : ?
abbrev pub marks_d : List ℕ
marks_d = 39 ∷ 40 ∷ 41 ∷ 44 ∷ 45 ∷ 46 ∷ 47 ∷ 58 ∷ 63 ∷ []

-- ! " # $ % & * ; < = > @ [ ] ^ _ ` { | }
abbrev pub marks_o : List ℕ
marks_o = 33 ∷ 34 ∷ 35 ∷ 36 ∷ 37 ∷ 38 ∷ 42 ∷ 59 ∷ 60 ∷ 61 ∷ 62 ∷ 64 ∷ 91 ∷ 93 ∷ 94 ∷ 95 ∷ 96 ∷ 123 ∷ 124 ∷ 125 ∷ []

-- space, tab, CR and LF
abbrev pub blanks : List ℕ
blanks = 32 ∷ 9 ∷ 13 ∷ 10 ∷ []

-- those below 32: tab, LF, CR
abbrev pub line_blanks : List ℕ
line_blanks = 9 ∷ 10 ∷ 13 ∷ []

-- "Set D: letters, digits, and ' ( ) , - . / : ?"
unfoldable pub set_d : ℕ → Bool
set_d u = alphanumeric u || member marks_d u

unfoldable pub set_o : ℕ → Bool
set_o u = member marks_o u

-- "bytes of D, O, space, tab, CR and LF are themselves"
unfoldable pub direct : ℕ → Bool
direct u = set_d u || (set_o u || member blanks u)

-- "bytes 32 to 126"
abbrev pub printable : ℕ → Bool
printable u = within 32 126 u

-- what shifts: '+', and '&' in names
abbrev pub sign_of : Style → ℕ
sign_of Header = 43
sign_of Body = 43
sign_of Name = 38

-- the last letter of the alphabet: "`,` replaces `/`" in names
abbrev pub last_of : Style → ℕ
last_of Header = slash
last_of Body = slash
last_of Name = comma

-- the styles of UTF-7; names are read by a rule of their own
abbrev pub Mail : Style → Type 0
Mail Header = Unit
Mail Body = Unit
Mail Name = ⊥

-- "Header style writes D, space, tab, CR and LF as themselves; body style adds O." In names "bytes 32 to 126 stand for themselves", but the
-- ampersand is `&-`.
unfoldable pub own : Style → ℕ → Bool
own Header u = set_d u || member blanks u
own Body u = direct u
own Name u = printable u && not (eqb u 38)
