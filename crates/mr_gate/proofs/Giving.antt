-- What a window gives of its file.
use Rattle.std.proofs.Common.{◌≡◌, ℕ, ◌+◌, ◌-◌, ◌≤◌, ◌<◌, List, length, min, get_or, take, drop, refl, sym, ◌∙◌, ap, subst, arith}
use Rattle.std.specs.Int.{w32, from_be_bytes}
use Rattle.std.proofs.lemmas.List.{drop-drop, drop-take, take-take}
use Rattle.mr_gate.specs.Log.{size_of}
use Rattle.mr_gate.specs.Walking.{Held, IsHeld}
use Rattle.mr_gate.proofs.Find.{head_gate}

shorter : (n m : ℕ) (xs ys : List ℕ) → n ≤ m → take m xs ≡ take m ys → take n xs ≡ take n ys
shorter n m xs ys le is =
    sym (take-take n m xs le) ∙ ap (λ (l : List ℕ). take n l) is ∙ take-take n m ys le

pub gives : (held : Held) (file : List ℕ) (at count : ℕ) → IsHeld held file → held.start ≤ at → at + count ≤ held.start + 65532 → at + count ≤ length file → take count (drop (at - held.start) held.bytes) ≡ take count (drop at file)
gives held file at count is le window inside =
    let i = at - held.start in
    let m = min 65532 (length file - held.start) in
    let here : i + count ≤ m = omega (arith, le, window, inside) in
    let on : held.start + i ≡ at = omega (arith, le) in
    sym (drop-take i count held.bytes)
    ∙ ap (λ (l : List ℕ). drop i l) (shorter (i + count) m held.bytes (drop held.start file) here is)
    ∙ drop-take i count (drop held.start file)
    ∙ ap (λ (l : List ℕ). take count l) (drop-drop i held.start file ∙ ap (λ n. drop n file) on)

pub gate_is : (file out : List ℕ) (at : ℕ) → take 1 out ≡ take 1 (drop at file) → get_or out 0 0 ≡ get_or file at 0
gate_is file out at is = head_gate file out at 1 is (omega arith)

pub size_is : (file out : List ℕ) (at : ℕ) → take 5 out ≡ take 5 (drop at file) → size_of (drop 1 out) ≡ size_of (drop (at + 1) file)
size_is file out at is =
    ap (λ (l : List ℕ). from_be_bytes w32 l) (sym (drop-take 1 4 out) ∙ ap (λ (l : List ℕ). drop 1 l) is ∙ drop-take 1 4 (drop at file) ∙ ap (λ (l : List ℕ). take 4 l) (drop-drop 1 at file))
