-- A text of a word is scanned to its kind and fields (`scan-kind`, `scan-fields`). Assumes nothing.
use Rattle.std.proofs.Common.{Bool, true, false, cond, List, [], ◌∷◌, ◌++◌, ◌≡◌, refl, sym, ap, ap₂, ◌∙◌, ℕ, zero, suc, ◌+◌, ◌*◌, ◌-◌, ◌/◌, ◌%◌, ◌≤◌, ◌<◌, add-zero, div-add-mod', arith, eqb, ltb, length, drop, get_or, length-drop, get_or-drop, drop-drop, eq-eqb, eqb-true, ltb-true, ltb-false, lt-ltb, le-ltb, Option, Some, None}
use lib.Seq.{drop-append-add}
use Rattle.vector_kind.specs.declared.Kind.{Kind}
use Rattle.vector_kind.specs.declared.Kind.TheVariants.{VclmulVv, VclmulVx, VclmulhVv, VclmulhVx, VghshVv, VghshVs, VgmulVv, VgmulVs}
use Rattle.vector_word.specs.declared.Fields.{Fields}
use Rattle.vector_word.specs.Word.{row}
use Rattle.vector_word.proofs.Writer.{Admitted}
use Rattle.vector_listing.specs.declared.Third.{Third}
use Rattle.vector_listing.specs.declared.Third.TheVariants.{Vs1, Rs1}
use Rattle.vector_listing.specs.Text.{ascii, mnemonic, digit, decimal, third_of, third, mask, text}
use Rattle.vector_listing.proofs.Lengths.{mnemonic-length}
use Rattle.vector_reader.specs.declared.Scanned.{Scanned}
use Rattle.vector_reader.specs.Scan.{kind_in, scanned, operands_at, has_third, vm_at, fields_after, fields_in}

-- ---- places

pub operands-at-most : (k : Kind) → operands_at k ≤ 12
operands-at-most k = omega (arith, mnemonic-length k)

-- a scanned number ends after one byte or two
one_byte : (s : List ℕ) (at : ℕ) → eqb (get_or s (at + 1) 0 / 16) 3 ≡ false → scanned s at ≡ record { value = get_or s at 0 % 16; end = at + 1 }
one_byte s at t = λ i. cond (t i) (record { value = get_or s at 0 % 16 * 10 + get_or s (at + 1) 0 % 16; end = at + 2 }) (record { value = get_or s at 0 % 16; end = at + 1 })

two_bytes : (s : List ℕ) (at : ℕ) → eqb (get_or s (at + 1) 0 / 16) 3 ≡ true
    → scanned s at ≡ record { value = get_or s at 0 % 16 * 10 + get_or s (at + 1) 0 % 16; end = at + 2 }
two_bytes s at t = λ i. cond (t i) (record { value = get_or s at 0 % 16 * 10 + get_or s (at + 1) 0 % 16; end = at + 2 }) (record { value = get_or s at 0 % 16; end = at + 1 })

pub scanned-end : (s : List ℕ) (at : ℕ) → (scanned s at).end ≤ at + 2
scanned-end s at = go (eqb (get_or s (at + 1) 0 / 16) 3) refl
  where
    go : (b : Bool) → eqb (get_or s (at + 1) 0 / 16) 3 ≡ b → (scanned s at).end ≤ at + 2
    go true t = omega (arith, ap (λ (n : Scanned). n.end) (two_bytes s at t))
    go false t = omega (arith, ap (λ (n : Scanned). n.end) (one_byte s at t))

-- ---- a number in decimal is scanned whole, where no digit follows

digit-back : (d : ℕ) → d < 10 → digit d % 16 ≡ d
digit-back d h = omega arith

NoDigit : List ℕ → Type 0
NoDigit rest = eqb (get_or rest 0 0 / 16) 3 ≡ false

scan-decimal : (s : List ℕ) (at n : ℕ) (rest : List ℕ) → n < 100 → drop at s ≡ decimal n ++ rest → NoDigit rest
    → ((scanned s at).value ≡ n) × (drop (scanned s at).end s ≡ rest)
unfolding NoDigit
scan-decimal s at n rest small e none = go (ltb n 10) refl e
  where
    place : (i : ℕ) (l : List ℕ) → drop at s ≡ l → get_or s (at + i) 0 ≡ get_or l i 0
    place i l e = sym (get_or-drop at s i 0) ∙ ap (λ (m : List ℕ). get_or m i 0) e

    first : (l : List ℕ) → drop at s ≡ l → get_or s at 0 ≡ get_or l 0 0
    first l e = ap (λ (i : ℕ). get_or s i 0) (sym (add-zero at)) ∙ place 0 l e

    go : (b : Bool) → ltb n 10 ≡ b → drop at s ≡ cond b (digit n ∷ []) (digit (n / 10) ∷ digit (n % 10) ∷ []) ++ rest
        → ((scanned s at).value ≡ n) × (drop (scanned s at).end s ≡ rest)
    go true t e =
        let less = ltb-true n 10 t in
        let test : eqb (get_or s (at + 1) 0 / 16) 3 ≡ false = ap (λ (x : ℕ). eqb (x / 16) 3) (place 1 (digit n ∷ rest) e) ∙ none in
        let is = one_byte s at test in (
          ap (λ (r : Scanned). r.value) is ∙ ap (λ (x : ℕ). x % 16) (first (digit n ∷ rest) e) ∙ digit-back n less,
          ap (λ (r : Scanned). drop r.end s) is ∙ sym (drop-drop 1 at s) ∙ ap (drop 1) e,
        )
    go false t e =
        let more = ltb-false n 10 t in
        let l = digit (n / 10) ∷ digit (n % 10) ∷ rest in
        let digits : digit (n % 10) / 16 ≡ 3 = omega arith in
        let test : eqb (get_or s (at + 1) 0 / 16) 3 ≡ true = eq-eqb _ 3 (ap (λ (x : ℕ). x / 16) (place 1 l e) ∙ digits) in
        let is = two_bytes s at test in
        let tens = digit-back (n / 10) (omega arith) in
        let ones = digit-back (n % 10) (omega arith) in (
          ap (λ (r : Scanned). r.value) is
              ∙ ap₂ (λ (x y : ℕ). x % 16 * 10 + y % 16) (first l e) (place 1 l e)
              ∙ ap₂ (λ (x y : ℕ). x * 10 + y) tens ones
              ∙ div-add-mod' n 10,
          ap (λ (r : Scanned). drop r.end s) is ∙ sym (drop-drop 2 at s) ∙ ap (drop 2) e,
        )

-- a number after a comma, a space and a letter
scan-next : (s : List ℕ) (at n letter : ℕ) (rest : List ℕ) → n < 100 → drop at s ≡ 44 ∷ 32 ∷ letter ∷ (decimal n ++ rest) → NoDigit rest
    → ((scanned s (at + 3)).value ≡ n) × (drop (scanned s (at + 3)).end s ≡ rest)
scan-next s at n letter rest small e = scan-decimal s (at + 3) n rest small (sym (drop-drop 3 at s) ∙ ap (drop 3) e)

-- ---- what follows vs2

no-digit-mask : (vm : ℕ) → NoDigit (mask vm)
unfolding NoDigit
no-digit-mask vm = go (eqb vm 0)
  where
    go : (b : Bool) → eqb (get_or (cond b (ascii ", v0.t") []) 0 0 / 16) 3 ≡ false
    go true = refl
    go false = refl

no-digit-third : (t : Option Third) (n vm : ℕ) → NoDigit (third t n ++ mask vm)
unfolding NoDigit
no-digit-third (Some Vs1) n vm = refl
no-digit-third (Some Rs1) n vm = refl
no-digit-third None n vm = no-digit-mask vm

scan-mask : (s : List ℕ) (at vm : ℕ) → vm < 2 → drop at s ≡ mask vm → vm_at s at ≡ vm
scan-mask s at zero h e =
    let six : length s - at ≡ 6 = sym (length-drop at s) ∙ ap length e in
    let test = lt-ltb at (length s) (omega arith) in
    λ i. cond (test i) 0 1
scan-mask s at (suc zero) h e =
    let none : length s - at ≡ 0 = sym (length-drop at s) ∙ ap length e in
    let test = le-ltb at (length s) (omega arith) in
    λ i. cond (test i) 0 1
scan-mask s at (suc (suc n)) h e = absurd (omega arith)

-- the third operand is there, or the vs1 field is 17
there : Option Third → Bool
there (Some Vs1) = true
there (Some Rs1) = true
there None = false

Given17 : Option Third → ℕ → Type 0
Given17 (Some Vs1) n = Unit {0}
Given17 (Some Rs1) n = Unit {0}
Given17 None n = n ≡ 17

has_there : (k : Kind) → has_third k ≡ there (third_of k)
unfolding there
has_there VclmulVv = refl
has_there VclmulVx = refl
has_there VclmulhVv = refl
has_there VclmulhVx = refl
has_there VghshVv = refl
has_there VghshVs = refl
has_there VgmulVv = refl
has_there VgmulVs = refl

given-17 : (k : Kind) (f : Fields) → Admitted (row k) f → Given17 (third_of k) f.vs1
unfolding Given17
given-17 VclmulVv f a = tt
given-17 VclmulVx f a = tt
given-17 VclmulhVv f a = tt
given-17 VclmulhVx f a = tt
given-17 VghshVv f a = tt
given-17 VghshVs f a = tt
given-17 VgmulVv f a = eqb-true f.vs1 17 a.vs1-allowed
given-17 VgmulVs f a = eqb-true f.vs1 17 a.vs1-allowed

module _ (s : List ℕ) (d m : Scanned) (f : Fields) (vm-small : f.vm < 2) (vs1-small : f.vs1 < 32) (vd-is : d.value ≡ f.vd) (vs2-is : m.value ≡ f.vs2) where
  with-third : (letter : ℕ) → drop m.end s ≡ 44 ∷ 32 ∷ letter ∷ (decimal f.vs1 ++ mask f.vm) → fields_after true s d m ≡ f
  with-third letter e =
      let found = scan-next s m.end f.vs1 letter (mask f.vm) (omega arith) e (no-digit-mask f.vm) in
      let vm-is = scan-mask s (scanned s (m.end + 3)).end f.vm vm-small found.1 in
      λ i. record { vm = vm-is i; vs2 = vs2-is i; vs1 = found.0 i; vd = vd-is i }

  scan-third : (t : Option Third) → Given17 t f.vs1 → drop m.end s ≡ third t f.vs1 ++ mask f.vm → fields_after (there t) s d m ≡ f
  unfolding Given17 there
  scan-third (Some Vs1) g e = with-third 118 e
  scan-third (Some Rs1) g e = with-third 120 e
  scan-third None g e =
      let vm-is = scan-mask s m.end f.vm vm-small e in
      λ i. record { vm = vm-is i; vs2 = vs2-is i; vs1 = sym g i; vd = vd-is i }

-- ---- the whole text

pub scan-kind : (k : Kind) (f : Fields) → kind_in (text k f) ≡ k
unfolding text
scan-kind VclmulVv f = refl
scan-kind VclmulVx f = refl
scan-kind VclmulhVv f = refl
scan-kind VclmulhVx f = refl
scan-kind VghshVv f = refl
scan-kind VghshVs f = refl
scan-kind VgmulVv f = refl
scan-kind VgmulVs f = refl

pub scan-fields : (k : Kind) (f : Fields) → Admitted (row k) f → fields_in k (text k f) ≡ f
unfolding text fields_in NoDigit
scan-fields k f a =
    let s = text k f in
    let rest2 = third (third_of k) f.vs1 ++ mask f.vm in
    let rest1 = (ascii ", v" ++ decimal f.vs2) ++ rest2 in
    let at1 : drop (operands_at k) s ≡ decimal f.vd ++ rest1 = drop-append-add (mnemonic k) ((ascii " v" ++ decimal f.vd) ++ rest1) 2 in
    let small1 : f.vd < 100 = omega (arith, a.fields.vd) in
    let small2 : f.vs2 < 100 = omega (arith, a.fields.vs2) in
    let d = scan-decimal s (operands_at k) f.vd rest1 small1 at1 refl in
    let m = scan-next s (scanned s (operands_at k)).end f.vs2 118 rest2 small2 d.1 (no-digit-third (third_of k) f.vs1 f.vm) in
    ap (λ (b : Bool). fields_after b s (scanned s (operands_at k)) (scanned s ((scanned s (operands_at k)).end + 3))) (has_there k)
    ∙ scan-third s (scanned s (operands_at k)) (scanned s ((scanned s (operands_at k)).end + 3)) f a.fields.vm a.fields.vs1 d.0 m.0
    (third_of k) (given-17 k f a) m.1
