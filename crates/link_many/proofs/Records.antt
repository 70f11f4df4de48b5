-- Records in a row of bytes: what `agrees` looks at (`agrees_by_square`), the answers place by place (`answers-are`), and the
-- lengths of a call that is done (`lengths-done`). Assumes nothing.
use Rattle.std.proofs.Common.{Bool, true, false, cond, not, ◌||◌, ◌≡◌, refl, sym, ap, ap₂, ◌∙◌, List, map, ℕ, zero, suc, ◌+◌, ◌*◌, ◌/◌, ◌%◌, ◌^◌, ◌≤◌, ◌<◌, add-zero, zero-add, add_assoc, le_of_suc-le-suc, not-suc-le-zero, suc-ne-zero, arith, eqb-true, bit_xor, eqb, lit≤, length, get_or, take, drop, length-drop, ext_get_or, get_or-take, get_or-drop, length-take-le, take-take, ◌&&◌}
use Rattle.std.proofs.lemmas.Bool.Decides.{same_from_decides, Decides-like, Decides-and, Decides-eqb}
use Rattle.ghash_block.specs.declared.block.Block.{Block}
use Rattle.ghash_block.specs.Block.{value_of}
use mir.Val.{bool_byte}
use Rattle.octets.specs.BigEndian.{be_at}
use Rattle.octets.proofs.BigEndian.{be-same}
use Rattle.gf128.specs.Bytes.{block_at}
use Rattle.gf128.specs.Field.{product}
use Rattle.gf128.specs.Hash.{length_block}
use Rattle.link_many.specs.Links.{claim_of, agrees, answer, record_at, records_from, answers, links_refusal}
use Rattle.link_many.proofs.Hashes.{hash-by-square}

-- ---- one record

-- two blocks are the same number where both halves are the same
pub same_blocks : (a b : Block) → a.1 < 2 ^ 64 → b.1 < 2 ^ 64 → (eqb a.0 b.0 && eqb a.1 b.1) ≡ eqb (value_of a) (value_of b)
same_blocks a b la lb =
    same_from_decides _ _
    (Decides-like _ (λ (w : (a.0 ≡ b.0) × (a.1 ≡ b.1)). ap₂ (λ (x y : ℕ). x * 2 ^ 64 + y) w.0 w.1) (λ e. (omega arith, omega arith))
    (Decides-and _ _ (Decides-eqb a.0 b.0) (Decides-eqb a.1 b.1)))
    (Decides-eqb (value_of a) (value_of b))

-- a number in a part of s is the one in s
part : (n m : ℕ) (s : List ℕ) (at k : ℕ) → k + m ≤ n → be_at (take n (drop at s)) k m ≡ be_at s (at + k) m
part n m s at k h =
    be-same m (take n (drop at s)) s k (at + k) (λ j l.
    get_or-take n (drop at s) (k + j) 0 (omega arith) ∙ get_or-drop at s (k + j) 0 ∙ ap (λ (i : ℕ). get_or s i 0) (sym (add_assoc at k j)))

pub length_part : (n at : ℕ) (s : List ℕ) → at + n ≤ length s → length (take n (drop at s)) ≡ n
length_part n at s h = let l = length-drop at s in length-take-le n (drop at s) (omega arith)

pub length-claim : (s : List ℕ) (at : ℕ) → at + 32 ≤ length s → length (claim_of (record_at s at)) ≡ 16
length-claim s at inside = ap length (take-take 16 32 (drop at s) (lit≤ tt)) ∙ length_part 16 at s (omega arith)

-- the test of a link by the key's square
pub agrees_by_square : (h : ℕ) (r : List ℕ) → h < 2 ^ 128 → length r ≡ 32
    → eqb (bit_xor (product (block_at r 0) (product h h)) (product (length_block 16 0) h)) (block_at r 16) ≡ agrees h r
agrees_by_square h r hh lr =
    sym (ap (λ (x : ℕ). eqb x (block_at r 16))
    (hash-by-square h (claim_of r) hh (length-take-le 16 r (omega arith))
    ∙ ap (λ (x : ℕ). bit_xor (product x (product h h)) (product (length_block 16 0) h)) (part 16 16 r 0 0 (lit≤ tt))))

-- its byte
pub byte-of_answer : (b : Bool) → bool_byte b ≡ cond b 1 0
byte-of_answer true = refl
byte-of_answer false = refl

-- ---- all of them

module _ (f : List ℕ → ℕ) (s : List ℕ) where
  length-records : (n at : ℕ) → length (map f (records_from n s at)) ≡ n
  unfolding records_from
  length-records zero at = refl
  length-records (suc n) at = ap suc (length-records n (at + 32))

  record-at : (n at k : ℕ) → k < n → get_or (map f (records_from n s at)) k 0 ≡ f (record_at s (at + 32 * k))
  unfolding records_from
  record-at zero at k h = absurd (not-suc-le-zero h)
  record-at (suc n) at zero h = ap (λ (i : ℕ). f (record_at s i)) (sym (add-zero at))
  record-at (suc n) at (suc k) h =
      let e : at + 32 + 32 * k ≡ at + 32 * suc k = omega arith in
      record-at n (at + 32) k (le_of_suc-le-suc h) ∙ ap (λ (i : ℕ). f (record_at s i)) e

pub answer_at : (h : ℕ) (s : List ℕ) (k : ℕ) → k < length s / 32 → get_or (answers h s) k 0 ≡ answer h (record_at s (32 * k))
answer_at h s k l = record-at (answer h) s (length s / 32) 0 k l ∙ ap (λ (i : ℕ). answer h (record_at s i)) (zero-add (32 * k))

pub answers-are : (h : ℕ) (s r : List ℕ) → length s ≡ 32 * length r → ((k : ℕ) → k < length r → get_or r k 0 ≡ answer h (record_at s (32 * k)))
    → r ≡ answers h s
answers-are h s r e each =
    let n : length r ≡ length s / 32 = omega arith in
    ext_get_or 0 r (answers h s) (n ∙ sym (length-records (answer h) s (length s / 32) 0)) (λ k l.
    each k l ∙ sym (answer_at h s k (omega arith)))

-- ---- the lengths of a call that is done

pub lengths-done : (key input output : ℕ) → links_refusal key input output ≡ 0 → (key ≡ 16) × (input % 32 ≡ 0) × (output ≡ input / 32)
lengths-done key input output = go (eqb key 16) (eqb (input % 32) 0) (eqb output (input / 32)) refl refl refl
  where
    go : (a b c : Bool) → eqb key 16 ≡ a → eqb (input % 32) 0 ≡ b → eqb output (input / 32) ≡ c
        → ◌≡◌ {A = ℕ} (cond (not a) 9 (cond (not b || not c) 16 0)) 0 → (key ≡ 16) × (input % 32 ≡ 0) × (output ≡ input / 32)
    go true true true ea eb ec e = (eqb-true key 16 ea, eqb-true (input % 32) 0 eb, eqb-true output (input / 32) ec)
    go true true false ea eb ec e = absurd (suc-ne-zero 15 e)
    go true false c ea eb ec e = absurd (suc-ne-zero 15 e)
    go false b c ea eb ec e = absurd (suc-ne-zero 8 e)
