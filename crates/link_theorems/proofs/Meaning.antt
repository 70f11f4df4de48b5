-- The answers on links by one hash each (`one-hash-each`), and at most one 1 where the expected hash is the same (`at_most_one`); which
-- records these speak of (`any-records`). Assumes nothing.
use Rattle.std.proofs.Common.{Bool, true, false, cond, List, [], ◌∷◌, ◌++◌, ◌≢◌, ◌≡◌, refl, sym, ap, ap₂, ◌∙◌, subst₂, ℕ, zero, suc, ◌+◌, ◌*◌, ◌/◌, ◌%◌, ◌≤◌, ◌<◌, suc-ne-zero, zero-lt-suc, le_of_eq, not-suc-le-zero, arith, eq-eqb, eqb-true, lit≤, length, get_or, take, drop, length-drop, get_or-take, get_or-drop, take_all}
use Rattle.octets.specs.Bytes.{AreBytes}
use Rattle.octets.proofs.BigEndian.{bytes_inside, be_at-lt, be_bytes-read}
use Rattle.gf128.specs.Bytes.{block_at, block_bytes}
use Rattle.gf128.specs.Differ.{DifferOnce}
use Rattle.gf128.specs.Entries.{hash_block, hash_out}
use Rattle.gf128.specs.Hash.{blocks_of, ghash}
use Rattle.gf128.proofs.Hash.{blocks_of-empty}
use Rattle.link_many.specs.Links.{claim_of, expected_of, agrees, answer, links_number}
use Rattle.link_many.proofs.Hashes.{one_block}
use Rattle.link_many.proofs.Records.{length_part, length-claim, lengths-done, answer_at}
use Rattle.link_theorems.specs.Meaning.{Checked, link_of, result_of, OneHashEach, AtMostOne, AnyRecords}
use Rattle.theorems.specs.Changed.{IsMessage, OneBlockChanged}
use Rattle.theorems.proofs.Changed.{not-refused, hash-lt, into-16, bytes-differ, one-changed-block-shows}

-- ---- the records of a call that is done

pub any-records : AnyRecords
any-records key s results i bk bs lk ls l =
    let whole : length s % 32 ≡ 0 = omega arith in
    let count : length results ≡ length s / 32 = omega arith in
    record {
      key_bytes = bk;
      bytes = bs;
      done = rw (eq-eqb (length key) 16 lk, eq-eqb (length s % 32) 0 whole, eq-eqb (length results) (length s / 32) count) refl;
      inside = l;
    }

-- ---- bytes

bytes-part : (n at : ℕ) (s : List ℕ) → at + n ≤ length s → AreBytes s → AreBytes (take n (drop at s))
bytes-part n at s inside b =
    bytes_inside (take n (drop at s)) (λ i l.
    let e = length_part n at s inside in
    subst₂ ◌<◌ (sym (get_or-take n (drop at s) i 0 (omega arith) ∙ get_or-drop at s i 0)) refl (b (at + i)))

-- the last 16 bytes are those of their block
last-bytes : (s : List ℕ) (at : ℕ) → AreBytes s → length s ≡ at + 16 → block_bytes (block_at s at) ≡ drop at s
last-bytes s at b e =
    let l = length-drop at s in
    be_bytes-read 16 s at b (le_of_eq (sym e)) ∙ take_all 16 (drop at s) (omega arith)

-- 16 bytes as A, and an empty C
one-block-message : (c : List ℕ) → AreBytes c → length c ≡ 16 → IsMessage c []
one-block-message c b e =
    record { bytes_a = b; bytes_c = bytes_inside [] (λ i l. absurd (not-suc-le-zero l)); within_a = omega arith; within_c = lit≤ tt }

-- ---- one record

-- 1 is the answer of a record that agrees
is_one : (b : Bool) → ◌≡◌ {A = ℕ} (cond b 1 0) 1 → b ≡ true
is_one true e = refl
is_one false e = absurd (suc-ne-zero 0 (sym e))

module _ (key s results : List ℕ) (i : ℕ) (k : Checked key s results i) where
  sixteen : length key ≡ 16
  sixteen = (lengths-done (length key) (length s) (length results) k.done).0

  in-records : i < length s / 32
  in-records =
      let e = (lengths-done (length key) (length s) (length results) k.done).2 in
      let l = k.inside in
      omega arith

  room : 32 * i + 32 ≤ length s
  room = let l = in-records in omega arith

  result-is : result_of key s results i ≡ answer (block_at key 0) (link_of s i)
  result-is = rw (eq-eqb (links_number key s results) 0 k.done) (answer_at (block_at key 0) s i in-records)

  length-link : length (link_of s i) ≡ 32
  length-link = length_part 32 (32 * i) s room

  bytes_link : AreBytes (link_of s i)
  bytes_link = bytes-part 32 (32 * i) s room k.bytes

  bytes-claim : AreBytes (claim_of (link_of s i))
  bytes-claim = let e = length-link in bytes-part 16 0 (link_of s i) (omega arith) bytes_link

  message : IsMessage (claim_of (link_of s i)) []
  message = one-block-message (claim_of (link_of s i)) bytes-claim (length-claim s (32 * i) room)

  hashed : hash_block key (claim_of (link_of s i)) [] ≡ ghash (block_at key 0) (claim_of (link_of s i)) []
  hashed = not-refused key (claim_of (link_of s i)) [] sixteen message

  agrees-where-one : result_of key s results i ≡ 1 → hash_block key (claim_of (link_of s i)) [] ≡ expected_of (link_of s i)
  agrees-where-one e =
      hashed
      ∙ eqb-true (ghash (block_at key 0) (claim_of (link_of s i)) []) (expected_of (link_of s i))
      (is_one (agrees (block_at key 0) (link_of s i)) (sym result-is ∙ e))

  one-where-agrees : hash_block key (claim_of (link_of s i)) [] ≡ expected_of (link_of s i) → result_of key s results i ≡ 1
  one-where-agrees e =
      result-is
      ∙ ap (λ (b : Bool). cond b 1 0)
      (eq-eqb (ghash (block_at key 0) (claim_of (link_of s i)) []) (expected_of (link_of s i)) (sym hashed ∙ e))

  -- both are the bytes of a block
  written : (out : List ℕ) → length out ≡ 16 → hash_out key (claim_of (link_of s i)) [] out ≡ block_bytes (hash_block key (claim_of (link_of s i)) [])
  written out lo = into-16 out (hash_block key (claim_of (link_of s i)) []) lo

  expected-bytes : block_bytes (expected_of (link_of s i)) ≡ drop 16 (link_of s i)
  expected-bytes = last-bytes (link_of s i) 16 bytes_link length-link

pub one-hash-each : OneHashEach
one-hash-each key s results out i k lo = (
  λ e. written key s results i k out lo ∙ ap block_bytes (agrees-where-one key s results i k e) ∙ expected-bytes key s results i k,
  λ e. one-where-agrees key s results i k
      (bytes-differ (hash_block key (claim_of (link_of s i)) []) (expected_of (link_of s i))
      (hash-lt key (claim_of (link_of s i)) [] k.key_bytes (sixteen key s results i k) (message key s results i k))
      (be_at-lt (link_of s i) (bytes_link key s results i k) 16 16)
      (sym (written key s results i k out lo) ∙ e ∙ sym (expected-bytes key s results i k))),
)

-- ---- two records

-- different claim blocks are one changed block
one-changed : (c c' : List ℕ) → IsMessage c [] → IsMessage c' [] → length c ≡ 16 → length c' ≡ 16 → c ≢ c' → OneBlockChanged c [] c' []
one-changed c c' m m' lc lc' n =
    record {
      first = m;
      second = m';
      lengths_a = lc ∙ sym lc';
      lengths_c = refl;
      once = subst₂ DifferOnce (sym (alone c lc)) (sym (alone c' lc')) (record {
        lengths = refl;
        place = 0;
        inside = zero-lt-suc 0;
        differs = λ e. n (sym (last-bytes c 0 m.bytes_a lc) ∙ ap block_bytes e ∙ last-bytes c' 0 m'.bytes_a lc');
        agrees =
            λ k. elim k as (λ k. (k ≡ 0 → ⊥) → get_or (block_at c 0 ∷ []) k 0 ≡ get_or (block_at c' 0 ∷ []) k 0)
            [ zero ↦ (λ q. absurd (q refl)) | suc j ↦ (λ q. refl) ];
      });
    }
  where
    alone : (a : List ℕ) → length a ≡ 16 → blocks_of a ++ blocks_of [] ≡ block_at a 0 ∷ []
    alone a e = ap₂ (λ (p q : List ℕ). p ++ q) (one_block a e) blocks_of-empty

pub at_most_one : AtMostOne
at_most_one key s results s' results' i j nz k k' same differ e e' =
    one-changed-block-shows key (claim_of (link_of s i)) [] (claim_of (link_of s' j)) [] nz
    (one-changed (claim_of (link_of s i)) (claim_of (link_of s' j)) (message key s results i k) (message key s' results' j k')
    (length-claim s (32 * i) (room key s results i k)) (length-claim s' (32 * j) (room key s' results' j k')) differ)
    (agrees-where-one key s results i k e ∙ same ∙ sym (agrees-where-one key s' results' j k' e'))
