use Prim.Native.Nat.{ℕ, ◌+◌}
use mathlib.Core.Path.{◌≡◌, ap, ◌∙◌}
use mathlib.Core.List.{List, ◌++◌}
use native.Mathlib.Omega.{arith}
use lib.ListN.{length}
use lib.Seq.{length-sets}
use Rattle.page_file.specs.File.{line, name_of, mark_of}
use Rattle.page_file.specs.Inner.{form_if}
use Rattle.page_keep.specs.Inner.{decimal, form_line}
use Rattle.page_keep.proofs.Puts.{sets_then}
use Rattle.page_keep.proofs.Keeping.{head-size, form-size, line-size, number_size, saved-room}
use Rattle.page_keep.proofs.put_head.Statement.{statement}
use Rattle.page_keep.proofs.put_head.Tie as tie

put-form-requires : tie.Need-put_form-name-requires
put-form-requires c κs =
    let a = c.args in
    omega (
      arith,
      head-size a.two a.page,
      line-size "kind" (name_of a.page.kind),
      line-size "saved" (mark_of (form_if a.two) a.page.saved),
    )

put-kind-requires : tie.Need-put_kind-opening-requires
put-kind-requires c κs =
    let a = c.args in
    omega (
      arith,
      head-size a.two a.page,
      line-size "kind" (name_of a.page.kind),
      line-size "saved" (mark_of (form_if a.two) a.page.saved),
    )

put-number-requires : tie.Need-put_number-length-requires
put-number-requires c κs =
    let a = c.args in
    omega (
      arith,
      head-size a.two a.page,
      line-size "kind" (name_of a.page.kind),
      line-size "saved" (mark_of (form_if a.two) a.page.saved),
    )

put-number-requires-2 : tie.Need-put_number-used-requires
put-number-requires-2 c κs =
    let a = c.args in
    omega (
      arith,
      head-size a.two a.page,
      line-size "kind" (name_of a.page.kind),
      line-size "saved" (mark_of (form_if a.two) a.page.saved),
    )

put-number-requires-3 : tie.Need-put_number-done-requires
put-number-requires-3 c κs =
    let a = c.args in
    omega (
      arith,
      head-size a.two a.page,
      line-size "kind" (name_of a.page.kind),
      line-size "saved" (mark_of (form_if a.two) a.page.saved),
    )

put-number-requires-4 : tie.Need-put_number-mark-requires
put-number-requires-4 c κs =
    let a = c.args in
    omega (
      arith,
      head-size a.two a.page,
      line-size "kind" (name_of a.page.kind),
      line-size "saved" (mark_of (form_if a.two) a.page.saved),
    )

put-saved-requires : tie.Need-put_saved-requires
put-saved-requires c κs =
    let a = c.args in
    let pre' = c.requires in
    let f = c.put_form-name in
    let k = c.put_kind-opening in
    let n1 = c.put_number-length in
    let n2 = c.put_number-used in
    let n3 = c.put_number-done in
    let n4 = c.put_number-mark in
    let w : ℕ = (form_if a.two).width in
    let ek : k.result ≡ f.result + length (line "kind" (name_of a.page.kind)) = k.ensures.0 in
    let e1 : n1.result ≡ k.result + (8 + w + 1) = n1.ensures.0 in
    let e2 : n2.result ≡ n1.result + (7 + w + 1) = n2.ensures.0 in
    let e3 : n3.result ≡ n2.result + (5 + w + 1) = n3.ensures.0 in
    let e4 : n4.result ≡ n3.result + (5 + w + 1) = n4.ensures.0 in
    saved-room a.two a.page {at = n4.result} (omega (arith, pre'))
    (omega (arith, f.ensures.0, ek, e1, e2, e3, e4, line-size "kind" (name_of a.page.kind)))

same_length : tie.Need-shape_of-out
same_length c =
    ap length c.put_saved.ensures.1 ∙ simp length-sets
    (ap length c.put_number-mark.ensures.1 ∙ simp length-sets
    (ap length c.put_number-done.ensures.1 ∙ simp length-sets
    (ap length c.put_number-used.ensures.1 ∙ simp length-sets
    (ap length c.put_number-length.ensures.1 ∙ simp length-sets
    (ap length c.put_kind-opening.ensures.1 ∙ simp length-sets
    (ap length c.put_form-name.ensures.1 ∙ simp length-sets))))))

returns : tie.Need-returns
returns c =
    let a = c.args in
    let put-form' = c.put_form-name in
    let put-kind' = c.put_kind-opening in
    let put-number' = c.put_number-length in
    let put-number2' = c.put_number-used in
    let put-number3' = c.put_number-done in
    let put-number4' = c.put_number-mark in
    let put-saved' = c.put_saved in
    let p = a.page in
    let l6 : List ℕ = line "saved" (mark_of (form_if a.two) p.saved) in
    let l5 : List ℕ = line "done" (decimal a.two p.done) in
    let l4 : List ℕ = line "used" (decimal a.two p.used) in
    let l3 : List ℕ = line "length" (decimal a.two p.length) in
    let l2 : List ℕ = line "opening" (decimal a.two p.opening) in
    let l1 : List ℕ = line "kind" (name_of p.kind) in (
      omega (
        arith,
        head-size a.two a.page,
        line-size "kind" (name_of a.page.kind),
        line-size "saved" (mark_of (form_if a.two) a.page.saved),
      ),
      sets_then a.out.now _ _ (form_line a.two) (l1 ++ (l2 ++ (l3 ++ (l4 ++ (l5 ++ l6))))) 0 put-form'.result
          put-form'.ensures.1 (omega (arith, form-size a.two))
          (sets_then put-form'.new.out _ _ l1 (l2 ++ (l3 ++ (l4 ++ (l5 ++ l6)))) put-form'.result
          put-kind'.result put-kind'.ensures.1 put-kind'.ensures.0
          (sets_then put-kind'.new.out _ _ l2 (l3 ++ (l4 ++ (l5 ++ l6))) put-kind'.result put-number'.result
          put-number'.ensures.1 (omega (arith, number_size a.two "opening" p.opening))
          (sets_then put-number'.new.out _ _ l3 (l4 ++ (l5 ++ l6)) put-number'.result put-number2'.result
          put-number2'.ensures.1 (omega (arith, number_size a.two "length" p.length))
          (sets_then put-number2'.new.out _ _ l4 (l5 ++ l6) put-number2'.result put-number3'.result
          put-number3'.ensures.1 (omega (arith, number_size a.two "used" p.used))
          (sets_then put-number3'.new.out _ _ l5 l6 put-number3'.result put-number4'.result
          put-number4'.ensures.1 (omega (arith, number_size a.two "done" p.done))
          put-saved'.ensures.1))))),
    )

pub put_head_spec : {M : Type 1} → statement M
put_head_spec =
    tie.close
    (tie.spec
    put-form-requires
    put-kind-requires
    put-number-requires
    put-number-requires-2
    put-number-requires-3
    put-number-requires-4
    put-saved-requires
    same_length
    returns)
