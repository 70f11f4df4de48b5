-- The examples hold (`examples`): one test of an example, computed over the table, and one law that turns the test into what the example
-- says, as for the marked cases. Assumes nothing.
use Rattle.std.proofs.Common.{◌≡◌, refl, sym, ap, ap₂, subst, ◌∙◌, Bool, true, false, true≢false, cond, not, ◌&&◌, ◌||◌, List, [], ◌∷◌, ◌++◌, ℕ, ◌+◌, ◌-◌, ◌/◌, Option, Some, None, eqb-true, eq-eqb, T, eqb, ltb, eqb→eq, length, get_or, replicate}
use borrow.Author.Tests.{eqb-false}
use Rattle.octets.specs.BigEndian.{be_at, be_bytes}
use Rattle.gf128.specs.Bytes.{put_block}
use Rattle.gf128.specs.Degree.{highest, degree_of, degree_refusal, degree_number, degree_place}
use Rattle.gf128.specs.Field.{coeff_of, product}
use Rattle.gf128.specs.Hash.{limit}
use Rattle.gf128.specs.Entries.{out_bytes, finish_number, finish_state}
use Rattle.gf128.specs.Running.{State, malformed, finished}
use Rattle.gf128.proofs.Computed.{quick_x_of, quick_steps, quick_product, quick-product}
use Rattle.gf128.proofs.Tests.{and_left, and_right}
use Rattle.vector_registers.specs.declared.settings.Settings.{Settings}
use Rattle.vector_group.specs.Group.{group_refusal, part_start, part_length}
use Rattle.vector_word.specs.declared.Fields.{Fields}
use Rattle.vector_kind.specs.declared.Kind.{Kind}
use Rattle.vector_kind.specs.declared.Kind.TheVariants.{VclmulVv, VclmulVx, VclmulhVv, VclmulhVx, VghshVv, VghshVs, VgmulVv, VgmulVs}
use Rattle.vector_kind.specs.Kinds.{kind_number}
use Rattle.vector_word.specs.declared.Instruction.{Instruction}
use Rattle.vector_word.specs.Word.{decode}
use Rattle.vector_word.specs.Writer.{Encoded}
use Rattle.vector_numbers.specs.Numbers.{Decoded, encoded_numbered, decoded_numbered}
use Rattle.vector_listing.specs.Listing.{listed, listed_into}
use Rattle.vector_listing.specs.Text.{ascii, text, text_of}
use Rattle.vector_reader.specs.Reading.{Reads}
use Rattle.vector_reader.specs.Scan.{kind_in, fields_in}
use Rattle.vector_reader.proofs.Reading.{found, not-a-word, its-text, other_text}
use Rattle.vector_refusal.specs.Refusal.{refusal_of, refusal_of_known}
use Rattle.vector_product.specs.Clmul.{clmul, clmul64}
use Rattle.vector_product.specs.Pieces.{clmul8, sum, sum_of_products, even_products}
use Rattle.octets.specs.LittleEndian.{read_le, write_le}
use Rattle.vector_element.specs.Element.{mask_bit, block_place}
use Rattle.vector_clmul.specs.Carryless.{carryless_result, carryless_step, carryless}
use Rattle.vector_element.specs.Steps.{steps}
use Rattle.vector_ghash.specs.declared.GhashMultiplier.{GhashMultiplier}
use Rattle.vector_ghash.specs.declared.GhashMultiplier.TheVariants.{YXorX, YAlone}
use Rattle.vector_ghash.specs.GhashWords.{group, multiplier_of, vv_step, vs_step, ghash_vv, ghash_vs}
use Rattle.vector_fill.specs.Fill.{ones_between, mask_step, mask_filled, tail_filled, filled}
use Rattle.vector_execute.specs.Execute.{done_known, done, executed, vstart_after}
use Rattle.theorems_examples.specs.Examples.{Example, call, known, word, encodes, decodes, lists, lists-as, lists-into, reads, question, part, times, hash, backward, out, written, state, feeds, finishes, degree, degree_of_bytes, back, pieces, sums, four, execution, running, file, table, Holds, ExamplesHold}
use Rattle.theorems_examples.proofs.Marked.{same, numbers_of, goes_back, same_at, is_word, goes_back_lem}
use Rattle.theorems_examples.proofs.Rows.{all_right, all-show}

-- ---- a call that computes fast: the executor's definition over the product, which is then the quick one

ghash_by : (ℕ → ℕ → ℕ) → GhashMultiplier → Fields → Settings → (ℕ → List ℕ → ℕ) → List ℕ → List ℕ
ghash_by p m f s key bytes =
    steps (λ i b. put_block b (block_place s.vlen f.vd i) (p (multiplier_of m f s b i) (key i b)))
    (s.vl / 4 - s.vstart / 4) (s.vstart / 4) bytes

units_by : (ℕ → ℕ → ℕ) → Kind → Fields → Settings → ℕ → List ℕ → List ℕ
units_by p VclmulVv f s scalar bytes = done_known VclmulVv f s scalar bytes
units_by p VclmulVx f s scalar bytes = done_known VclmulVx f s scalar bytes
units_by p VclmulhVv f s scalar bytes = done_known VclmulhVv f s scalar bytes
units_by p VclmulhVx f s scalar bytes = done_known VclmulhVx f s scalar bytes
units_by p VghshVv f s scalar bytes = ghash_by p YXorX f s (λ i b. group s b f.vs2 i) bytes
units_by p VghshVs f s scalar bytes = ghash_by p YXorX f s (λ i b. group s bytes f.vs2 0) bytes
units_by p VgmulVv f s scalar bytes = ghash_by p YAlone f s (λ i b. group s b f.vs2 i) bytes
units_by p VgmulVs f s scalar bytes = ghash_by p YAlone f s (λ i b. group s bytes f.vs2 0) bytes

done_by : (ℕ → ℕ → ℕ) → Option Instruction → Settings → ℕ → List ℕ → List ℕ
done_by p None s scalar bytes = bytes
done_by p (Some x) s scalar bytes = filled x.fields s (units_by p x.kind x.fields s scalar bytes)

executed_by : (ℕ → ℕ → ℕ) → ℕ → Settings → ℕ → List ℕ → List ℕ
executed_by p w s scalar bytes = cond (eqb (refusal_of (length bytes) w s) 0) (done_by p (decode w) s scalar bytes) bytes

units-by : (k : Kind) (f : Fields) (s : Settings) (scalar : ℕ) (bytes : List ℕ) → units_by product k f s scalar bytes ≡ done_known k f s scalar bytes
unfolding units_by ghash_by ghash_vv ghash_vs vv_step vs_step
units-by VclmulVv f s scalar bytes = refl
units-by VclmulVx f s scalar bytes = refl
units-by VclmulhVv f s scalar bytes = refl
units-by VclmulhVx f s scalar bytes = refl
units-by VghshVv f s scalar bytes = refl
units-by VghshVs f s scalar bytes = refl
units-by VgmulVv f s scalar bytes = refl
units-by VgmulVs f s scalar bytes = refl

done-by : (w : Option Instruction) (s : Settings) (scalar : ℕ) (bytes : List ℕ) → done_by product w s scalar bytes ≡ done w s scalar bytes
unfolding done_by
done-by None s scalar bytes = refl
done-by (Some x) s scalar bytes = ap (filled x.fields s) (units-by x.kind x.fields s scalar bytes)

quick-executed : (w : ℕ) (s : Settings) (scalar : ℕ) (bytes : List ℕ) → executed_by quick_product w s scalar bytes ≡ executed w s scalar bytes
unfolding executed_by executed
quick-executed w s scalar bytes =
    (λ j. executed_by (λ u h. quick-product u h j) w s scalar bytes)
    ∙ ap (λ (b : List ℕ). cond (eqb (refusal_of (length bytes) w s) 0) b bytes) (done-by (decode w) s scalar bytes)

-- ---- the numbers of entries on slices, by the lengths alone

abbrev times_by : ℕ → ℕ → ℕ
times_by k b = cond (not (eqb k 16) || not (eqb b 16)) 9 0

abbrev hash_by : ℕ → ℕ → ℕ → ℕ
hash_by k a c = cond (not (eqb k 16)) 9 (cond (ltb limit a || ltb limit c) 11 0)

abbrev backward_by : ℕ → ℕ → ℕ → ℕ
backward_by k b l = cond (not (eqb k 16) || (not (eqb b 16) || not (eqb l 16))) 9 0

abbrev out_by : ℕ → ℕ → ℕ
out_by answer n = cond (eqb n 16) answer 9

-- a piece of A, a piece of C, and the finish
abbrev feed_numbers : State → ℕ → ℕ → List ℕ
feed_numbers s k n =
    cond (not (eqb k 16)) 9 (cond (malformed s || not (eqb s.phase 0)) 10 (cond (ltb limit (s.count_a + n)) 11 0))
    ∷ cond (not (eqb k 16)) 9 (cond (malformed s || eqb s.phase 2) 10 (cond (ltb limit (s.count_c + n)) 11 0))
    ∷ cond (not (eqb k 16)) 9 (cond (malformed s || eqb s.phase 2) 10 0)
    ∷ []

-- the number of a finish, and the phase afterwards
abbrev finish_numbers : ℕ → ℕ → ℕ → List ℕ
finish_numbers phase k n =
    let s = running 0 phase 0 0 0 0 in
    finish_number (replicate k 0) s (replicate n 0xA5) ∷ (finish_state (replicate k 0) s (replicate n 0xA5)).phase ∷ []

-- ---- the words' numbers in a row, and the reader by a test that computes

abbrev word_numbers : Encoded → List ℕ
word_numbers e = e.number ∷ e.word ∷ []

abbrev decoded_numbers : Decoded → List ℕ
decoded_numbers d = d.number ∷ d.kind ∷ d.fields.vm ∷ d.fields.vs2 ∷ d.fields.vs1 ∷ d.fields.vd ∷ []

-- a text that was taken for a word is read as it, if it is its text
read_by : List ℕ → Encoded
read_by s =
    cond (eqb (found s).number 0)
    (cond (same (text (kind_in s) (fields_in (kind_in s) s)) s) (found s) (record { number = 2; word = 0 }))
    (found s)

-- ---- the test

number_of : Bool → ℕ
number_of true = 1
number_of false = 0

right : Example → Bool
right (call file_length w s number) = eqb (refusal_of file_length w s) number
right (known kind vm vd vs2 vs1 s number) = eqb (refusal_of_known kind (record { vm = vm; vs2 = vs2; vs1 = vs1; vd = vd }) s) number
right (word w kind vm vd vs2 vs1) = same (numbers_of (decode w)) (kind_number kind ∷ vm ∷ vd ∷ vs2 ∷ vs1 ∷ [])
right (encodes kind vm vs2 vs1 vd number w) =
    same (word_numbers (encoded_numbered kind (record { vm = vm; vs2 = vs2; vs1 = vs1; vd = vd }))) (number ∷ w ∷ [])
right (decodes w number kind vm vs2 vs1 vd) = same (decoded_numbers (decoded_numbered w)) (number ∷ kind ∷ vm ∷ vs2 ∷ vs1 ∷ vd ∷ [])
right (lists w buffer number bytes) = same ((listed buffer (decode w)).number ∷ (listed buffer (decode w)).length ∷ []) (number ∷ bytes ∷ [])
right (lists-as w text) = same (text_of (decode w)) (ascii text)
right (lists-into w before after) = same (listed_into before (decode w)) after
right (reads text number w) = same (word_numbers (read_by text)) (number ∷ w ∷ [])
right (question vlen file_length lmul register number) = eqb (group_refusal vlen file_length lmul register) number
right (part vlen file_length lmul register start bytes) =
    same (part_start vlen file_length lmul register ∷ part_length vlen file_length lmul register ∷ []) (start ∷ bytes ∷ [])
right (times k b number) = eqb (times_by k b) number
right (hash k m n number) = eqb (hash_by k m n) number
right (backward k b l number) = eqb (backward_by k b l) number
right (out n answer number) = eqb (out_by answer n) number
right (written before v after) = same (out_bytes before v) after
right (state phase count_a count_c place byte bad) = eqb (number_of (malformed (running 0 phase count_a count_c place byte))) (number_of bad)
right (feeds phase count_a count_c k n a c finish) = same (feed_numbers (running 0 phase count_a count_c 0 0) k n) (a ∷ c ∷ finish ∷ [])
right (finishes phase k n number after) = same (finish_numbers phase k n) (number ∷ after ∷ [])
right (degree u number at) = same (degree_refusal u ∷ degree_of u ∷ []) (number ∷ at ∷ [])
right (degree_of_bytes block number at) = same (degree_number block ∷ degree_place block ∷ []) (number ∷ at ∷ [])
right (back h x y1 number block) = goes_back (eqb h 0) (eqb y1 0) h x y1 number block
right (pieces p q product) = eqb (clmul8 p q) product
right (sums m n a b product) = eqb (sum_of_products m n a b) product
right (four a q products) = eqb (even_products a q) products
right (execution w s scalar before changed vstart) =
    same (executed_by quick_product w s scalar (file before)) (file (changed ++ before)) && eqb (vstart_after (length (file before)) w s) vstart

-- ---- what the test shows

pub same-list : (xs ys : List ℕ) → T (same xs ys) → xs ≡ ys
unfolding same
same-list [] [] t = refl
same-list [] (y ∷ ys) t = absurd t
same-list (x ∷ xs) [] t = absurd t
same-list (x ∷ xs) (y ∷ ys) t = ap₂ ◌∷◌ (eqb→eq x y (and_left (eqb x y) (same xs ys) t)) (same-list xs ys (and_right (eqb x y) (same xs ys) t))

same_flag : (a b : Bool) → T (eqb (number_of a) (number_of b)) → a ≡ b
unfolding number_of
same_flag true true t = refl
same_flag true false t = absurd t
same_flag false true t = absurd t
same_flag false false t = refl

same_self : (xs : List ℕ) → same xs xs ≡ true
unfolding same
same_self [] = refl
same_self (x ∷ xs) = rw (eq-eqb x x refl) (same_self xs)

same_word : (e : Encoded) (number w : ℕ) → T (same (word_numbers e) (number ∷ w ∷ [])) → e ≡ record { number = number; word = w }
same_word e number w t =
    let at = same_at (word_numbers e) (number ∷ w ∷ []) t in λ i. record { number = at 0 i; word = at 1 i }

read-by : (s : List ℕ) → Reads s (read_by s)
unfolding read_by
read-by s = go (eqb (found s).number 0) refl
  where
    l : List ℕ
    l = text (kind_in s) (fields_in (kind_in s) s)

    compared : (b : Bool) → same l s ≡ b → (found s).number ≡ 0 → Reads s (cond b (found s) (record { number = 2; word = 0 }))
    compared true e n = its-text s n (sym (same-list l s (subst T (sym e) tt)))
    compared false e n = other_text s n (λ h. true≢false (sym (same_self l) ∙ ap (same l) (sym h) ∙ e))

    go : (b : Bool) → eqb (found s).number 0 ≡ b → Reads s (cond b (cond (same l s) (found s) (record { number = 2; word = 0 })) (found s))
    go true e = compared (same l s) refl (eqb-true (found s).number 0 e)
    go false e = not-a-word s (eqb-false (found s).number 0 e)

shows : (e : Example) → T (right e) → Holds e
unfolding right
shows (call file_length w s number) t = eqb→eq (refusal_of file_length w s) number t
shows (known kind vm vd vs2 vs1 s number) t = eqb→eq (refusal_of_known kind (record { vm = vm; vs2 = vs2; vs1 = vs1; vd = vd }) s) number t
shows (word w kind vm vd vs2 vs1) t = is_word (decode w) kind vm vd vs2 vs1 t
shows (encodes kind vm vs2 vs1 vd number w) t = same_word (encoded_numbered kind (record { vm = vm; vs2 = vs2; vs1 = vs1; vd = vd })) number w t
shows (decodes w number kind vm vs2 vs1 vd) t =
    let e = same_at (decoded_numbers (decoded_numbered w)) (number ∷ kind ∷ vm ∷ vs2 ∷ vs1 ∷ vd ∷ []) t in
    λ i. record { number = e 0 i; kind = e 1 i; fields = record { vm = e 2 i; vs2 = e 3 i; vs1 = e 4 i; vd = e 5 i } }
shows (lists w buffer number bytes) t =
    let e = same_at ((listed buffer (decode w)).number ∷ (listed buffer (decode w)).length ∷ []) (number ∷ bytes ∷ []) t in
    λ i. record { number = e 0 i; length = e 1 i }
shows (lists-as w text) t = same-list (text_of (decode w)) (ascii text) t
shows (lists-into w before after) t = same-list (listed_into before (decode w)) after t
shows (reads text number w) t = subst (Reads text) (same_word (read_by text) number w t) (read-by text)
shows (question vlen file_length lmul register number) t = eqb→eq (group_refusal vlen file_length lmul register) number t
shows (part vlen file_length lmul register start bytes) t =
    let e = same_at (part_start vlen file_length lmul register ∷ part_length vlen file_length lmul register ∷ []) (start ∷ bytes ∷ []) t in
    (e 0, e 1)
shows (times k b number) t = λ key block ek eb. ap₂ times_by ek eb ∙ eqb→eq (times_by k b) number t
shows (hash k m n number) t = λ key a c ek ea ec. (λ i. hash_by (ek i) (ea i) (ec i)) ∙ eqb→eq (hash_by k m n) number t
shows (backward k b l number) t = λ key block later ek eb el. (λ i. backward_by (ek i) (eb i) (el i)) ∙ eqb→eq (backward_by k b l) number t
shows (out n answer number) t = λ bytes e. ap (out_by answer) e ∙ eqb→eq (out_by answer n) number t
shows (written before v after) t = same-list (out_bytes before v) after t
shows (state phase count_a count_c place byte bad) t = λ y. same_flag (malformed (running 0 phase count_a count_c place byte)) bad t
shows (feeds phase count_a count_c k n a c finish) t = λ y key piece ek en.
    let e : (i : ℕ) → get_or (feed_numbers (running y phase count_a count_c 0 0) (length key) (length piece)) i 0 ≡ get_or (a ∷ c ∷ finish ∷ []) i 0 =
    λ i. (λ j. get_or (feed_numbers (running y phase count_a count_c 0 0) (ek j) (en j)) i 0)
    ∙ same_at (feed_numbers (running y phase count_a count_c 0 0) k n) (a ∷ c ∷ finish ∷ []) t i in
    (e 0, e 1, e 2)
shows (finishes phase k n number after) t =
    let e = same_at (finish_numbers phase k n) (number ∷ after ∷ []) t in
    (e 0, e 1)
shows (degree u number at) t =
    let e = same_at (degree_refusal u ∷ degree_of u ∷ []) (number ∷ at ∷ []) t in
    (e 0, e 1)
shows (degree_of_bytes block number at) t =
    let e = same_at (degree_number block ∷ degree_place block ∷ []) (number ∷ at ∷ []) t in
    (e 0, e 1)
shows (back h x y1 number block) t = goes_back_lem h x y1 number block (eqb h 0) (eqb y1 0) refl refl t
shows (pieces p q product) t = eqb→eq (clmul8 p q) product t
shows (sums m n a b product) t = eqb→eq (sum_of_products m n a b) product t
shows (four a q products) t = eqb→eq (even_products a q) products t
shows (execution w s scalar before changed vstart) t =
    let a = same (executed_by quick_product w s scalar (file before)) (file (changed ++ before)) in
    let b = eqb (vstart_after (length (file before)) w s) vstart in (
      sym (quick-executed w s scalar (file before))
          ∙ same-list (executed_by quick_product w s scalar (file before)) (file (changed ++ before)) (and_left a b t),
      eqb→eq (vstart_after (length (file before)) w s) vstart (and_right a b t),
    )

pub examples : ExamplesHold
unfolding table all_right right same finished numbers_of read_by text fields_in goes_back decode refusal_of refusal_of_known group_refusal number_of file quick_x_of quick_steps quick_product be_at be_bytes highest degree_of coeff_of executed_by done_by units_by ghash_by ones_between mask_step mask_filled tail_filled filled steps clmul clmul64 clmul8 sum read_le write_le mask_bit carryless_result carryless_step carryless
examples = record { rows = refl; all = all-show Holds right shows table tt }
