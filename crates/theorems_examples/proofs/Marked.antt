-- Document 01's marked cases hold (`marked`): one test of a case, computed over the table, and one law that turns the test into what the
-- case says. Assumes nothing.
use Rattle.std.proofs.Common.{◌≡◌, refl, sym, ap, ◌∙◌, subst, subst₂, Bool, true, false, cond, ◌&&◌, List, [], ◌∷◌, ℕ, zero, suc, ◌/◌, ◌^◌, ◌<◌, div-lt_iff_lt-mul, Option, Some, None, eqb-true, bit_xor, T, eqb, eqb→eq, lit<, pow_pos, get_or}
use borrow.Author.Tests.{eqb-false}
use Rattle.octets.specs.BigEndian.{be_at}
use Rattle.gf128.specs.Hash.{blocks_from, blocks_of, length_block, message_of}
use Rattle.gf128.specs.StepBack.{IsBlock, StepsBack}
use Rattle.gf128.proofs.Computed.{quick_x_of, quick_steps, quick_product, quick_over, quick_ghash, quick-product, quick-ghash}
use Rattle.gf128.proofs.Tests.{and_left, and_right}
use Rattle.gf128.proofs.StepBack.{steps-to, steps-none, steps-many}
use Rattle.vector_kind.specs.declared.Kind.{Kind}
use Rattle.vector_kind.specs.declared.Kind.TheVariants.{VclmulVv, VclmulVx, VclmulhVv, VclmulhVx, VghshVv, VghshVs, VgmulVv, VgmulVs}
use Rattle.vector_kind.specs.Kinds.{kinds, kind_number}
use Rattle.vector_word.specs.declared.Instruction.{Instruction}
use Rattle.vector_word.specs.Word.{instruction, decode}
use Rattle.vector_product.specs.Clmul.{clmul, clmul64, low_half, high_half}
use Rattle.theorems_examples.specs.Marked.{Case, carryless, times, back, word, hash, table, Holds, MarkedCasesHold}
use Rattle.theorems_examples.proofs.Rows.{all_right, all-show}

-- ---- the test: the numbers that the written rules give are the numbers that the case says

unfoldable pub same : List ℕ → List ℕ → Bool
same [] [] = true
same [] (y ∷ ys) = false
same (x ∷ xs) [] = false
same (x ∷ xs) (y ∷ ys) = eqb x y && same xs ys

unfoldable pub numbers_of : Option Instruction → List ℕ
numbers_of (Some x) = kind_number x.kind ∷ x.fields.vm ∷ x.fields.vd ∷ x.fields.vs2 ∷ x.fields.vs1 ∷ []
numbers_of None = []

-- what a number has above a block's 128 digits
abbrev pub above : ℕ → ℕ
above n = n / 2 ^ 128

-- a step back is tested forwards; the zero key has an answer of its own
unfoldable pub goes_back : (zero-key zero-later : Bool) (h x y1 number block : ℕ) → Bool
goes_back true z h x y1 number block = same (number ∷ block ∷ []) (cond z 13 12 ∷ 0 ∷ [])
goes_back false z h x y1 number block =
    same (number ∷ quick_product (bit_xor block x) h ∷ above h ∷ above x ∷ above y1 ∷ above block ∷ []) (0 ∷ y1 ∷ 0 ∷ 0 ∷ 0 ∷ 0 ∷ [])

right : Case → Bool
right (carryless sew a b low high) = same (low_half sew (clmul64 a b) ∷ high_half sew (clmul64 a b) ∷ []) (low ∷ high ∷ [])
right (times u h p) = same (quick_product u h ∷ []) (p ∷ [])
right (back h x y1 number block) = goes_back (eqb h 0) (eqb y1 0) h x y1 number block
right (word w kind vm vd vs2 vs1) = same (numbers_of (decode w)) (kind_number kind ∷ vm ∷ vd ∷ vs2 ∷ vs1 ∷ [])
right (hash h a c block) = same (quick_ghash h a c ∷ []) (block ∷ [])

-- ---- what the test shows

pub same_at : (xs ys : List ℕ) → T (same xs ys) → (n : ℕ) → get_or xs n 0 ≡ get_or ys n 0
unfolding same
same_at [] [] t n = refl
same_at [] (y ∷ ys) t n = absurd t
same_at (x ∷ xs) [] t n = absurd t
same_at (x ∷ xs) (y ∷ ys) t zero = eqb→eq x y (and_left (eqb x y) (same xs ys) t)
same_at (x ∷ xs) (y ∷ ys) t (suc n) = same_at xs ys (and_right (eqb x y) (same xs ys) t) n

at_place : (k : Kind) → get_or kinds (kind_number k) VclmulVv ≡ k
at_place VclmulVv = refl
at_place VclmulVx = refl
at_place VclmulhVv = refl
at_place VclmulhVx = refl
at_place VghshVv = refl
at_place VghshVs = refl
at_place VgmulVv = refl
at_place VgmulVs = refl

pub is_word : (w : Option Instruction) (k : Kind) (vm vd vs2 vs1 : ℕ) → T (same (numbers_of w) (kind_number k ∷ vm ∷ vd ∷ vs2 ∷ vs1 ∷ []))
    → w ≡ Some (instruction k (record { vm = vm; vs2 = vs2; vs1 = vs1; vd = vd }))
unfolding numbers_of same
is_word (Some x) k vm vd vs2 vs1 t =
    let j = x.kind in
    let f = x.fields in
    let e = same_at (kind_number j ∷ f.vm ∷ f.vd ∷ f.vs2 ∷ f.vs1 ∷ []) (kind_number k ∷ vm ∷ vd ∷ vs2 ∷ vs1 ∷ []) t in
    let kind : j ≡ k = sym (at_place j) ∙ ap (λ (n : ℕ). get_or kinds n VclmulVv) (e 0) ∙ at_place k in
    λ i. Some (instruction (kind i) (record { vm = e 1 i; vs2 = e 3 i; vs1 = e 4 i; vd = e 2 i }))
is_word None k vm vd vs2 vs1 t = absurd t

is_block : (n : ℕ) → above n ≡ 0 → IsBlock n
is_block n e = (div-lt_iff_lt-mul (pow_pos 128)).0 (subst (λ (q : ℕ). q < 1) (sym e) (lit< tt))

module _ (h x y1 number block : ℕ) where
  pub goes_back_lem : (zh z1 : Bool) → eqb h 0 ≡ zh → eqb y1 0 ≡ z1 → T (goes_back zh z1 h x y1 number block) → StepsBack h x y1 number block
  unfolding goes_back
  goes_back_lem true true eh e1 t =
      let e = same_at (number ∷ block ∷ []) (13 ∷ 0 ∷ []) t in
      subst₂ (StepsBack h x y1) (sym (e 0)) (sym (e 1)) (steps-many h x y1 (eqb-true h 0 eh) (eqb-true y1 0 e1))
  goes_back_lem true false eh e1 t =
      let e = same_at (number ∷ block ∷ []) (12 ∷ 0 ∷ []) t in
      subst₂ (StepsBack h x y1) (sym (e 0)) (sym (e 1)) (steps-none h x y1 (eqb-true h 0 eh) (eqb-false y1 0 e1))
  goes_back_lem false z eh e1 t =
      let e =
      same_at (number ∷ quick_product (bit_xor block x) h ∷ above h ∷ above x ∷ above y1 ∷ above block ∷ []) (0 ∷ y1 ∷ 0 ∷ 0 ∷ 0 ∷ 0 ∷ []) t in
      let hh = is_block h (e 2) in
      subst₂ (StepsBack h x y1) (sym (e 0)) refl
      (steps-to h x y1 block hh (eqb-false h 0 eh) (is_block block (e 5)) (sym (quick-product (bit_xor block x) h) ∙ e 1))

shows : (c : Case) → T (right c) → Holds c
unfolding right
shows (carryless sew a b low high) t =
    let e = same_at (low_half sew (clmul64 a b) ∷ high_half sew (clmul64 a b) ∷ []) (low ∷ high ∷ []) t in
    (e 0, e 1)
shows (times u h p) t = sym (quick-product u h) ∙ same_at (quick_product u h ∷ []) (p ∷ []) t 0
shows (back h x y1 number block) t = goes_back_lem h x y1 number block (eqb h 0) (eqb y1 0) refl refl t
shows (word w kind vm vd vs2 vs1) t = is_word (decode w) kind vm vd vs2 vs1 t
shows (hash h a c block) t = sym (quick-ghash h a c) ∙ same_at (quick_ghash h a c ∷ []) (block ∷ []) t 0

pub marked : MarkedCasesHold
unfolding table all_right right goes_back numbers_of same quick_x_of quick_steps quick_product quick_over quick_ghash be_at blocks_from blocks_of length_block message_of decode clmul clmul64
marked = record { rows = refl; all = all-show Holds right shows table tt }
