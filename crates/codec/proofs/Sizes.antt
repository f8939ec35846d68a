-- What the bytes for a cell and at the end mean, in every kind. Assumes nothing.
use Prim.Native.Nat.{ℕ, ◌+◌, ◌*◌, ◌≤◌}
use mathlib.Core.Path.{refl}
use mathlib.Core.List.{List, [], ◌∷◌}
use native.Mathlib.Omega.{arith}
use lib.ListN.{length}
use Rattle.answer.specs.Answer.{limit}
use Rattle.bits.specs.Bits.{bits, bits_of, groups, full, filler}
use Rattle.utf7.specs.Sets.{alphanumeric, set_d, set_o, direct, own}
use Rattle.utf7.specs.Writing.{pieces, letters, spell, spell_all, writing, first_over}
use Rattle.utf7.proofs.Pieces as utf7-pieces
use Rattle.utf7.specs.declared.Style.TheVariants.{Header, Body}
use Rattle.jp2.specs.Table.{designations, begins, first_where, row_of_number}
use Rattle.jp2.specs.Rule.{graphic}
use Rattle.jp2.specs.Writable.{pair_set, shift_set, codes, writable, first_foreign}
use Rattle.jp2.specs.Writing as jp2-writing
use Rattle.jp2.specs.Writing.{designating, force_after, write_from}
use Rattle.jp2.proofs.Foreign.{all-writable}
use Rattle.jp2.proofs.Size as jp2-size
use Rattle.codec.specs.declared.Kind.{Kind}
use Rattle.codec.specs.declared.Kind.TheVariants.{Utf7Header, Utf7Body, Jp2}
use Rattle.codec.specs.Kinds.{bytes_per_cell, bytes_at_end, most_bytes, first_unwritable, writing_in}
use Rattle.codec.specs.Sizes.{Writable, bytes_for, Sizes}

pub size-bound :
    (kind : Kind) (cells : List ℕ) → Writable kind cells →
    bytes_for kind cells ≤ bytes_per_cell kind * length cells + bytes_at_end kind
unfolding bytes_per_cell bytes_at_end first_unwritable writing_in
size-bound Utf7Header cells h = omega (arith, utf7-pieces.size-bound Header cells)
size-bound Utf7Body cells h = omega (arith, utf7-pieces.size-bound Body cells)
size-bound Jp2 cells h = omega (arith, jp2-size.size-bound cells (all-writable cells (omega (arith, h))))

pub size_fits :
    (kind : Kind) (cells : List ℕ) → Writable kind cells → length cells ≤ limit → bytes_for kind cells ≤ most_bytes
unfolding bytes_per_cell bytes_at_end most_bytes
size_fits Utf7Header cells h few = omega (arith, size-bound Utf7Header cells h)
size_fits Utf7Body cells h few = omega (arith, size-bound Utf7Body cells h)
size_fits Jp2 cells h few = omega (arith, size-bound Jp2 cells h)

-- a unit that no style writes as itself; and a pair of JP-2 behind one of another set
pub sizes : (kind : Kind) → Sizes kind
unfolding bytes_per_cell bytes_at_end first_unwritable writing_in bits bits_of groups full filler alphanumeric set_d set_o
    direct own pieces letters spell spell_all writing first_over designations begins first_where row_of_number graphic
    pair_set shift_set codes writable first_foreign jp2-writing.spell jp2-writing.writing designating force_after
    write_from
sizes Utf7Header =
    record {
      most = size-bound Utf7Header;
      before = [];
      cell = 0x391;
      writable = refl;
      more = refl;
      alone = refl;
      fits = size_fits Utf7Header;
    }
sizes Utf7Body =
    record {
      most = size-bound Utf7Body;
      before = [];
      cell = 0x391;
      writable = refl;
      more = refl;
      alone = refl;
      fits = size_fits Utf7Body;
    }
sizes Jp2 =
    record {
      most = size-bound Jp2;
      before = 0x952121 ∷ [];
      cell = 0x9F2121;
      writable = refl;
      more = refl;
      alone = refl;
      fits = size_fits Jp2;
    }
