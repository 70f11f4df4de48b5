-- What a byte of the output means, for readers: it is the answer of one hash a record, and under a key that is not zero no two claim blocks
-- have one hash.
-- Assumes nothing.
use Rattle.std.specs.Prelude.{ℕ, ◌*◌, ◌<◌, List, [], ◌≢◌, ◌↔◌, ◌≡◌, length, get_or, drop}
use Rattle.octets.specs.Bytes.{AreBytes}
use Rattle.gf128.specs.Entries.{hash_out}
use Rattle.link_many.specs.Links.{claim_of, expected_of, record_at, links_number, links_results}
use Rattle.theorems.specs.Changed.{NonzeroKey}

-- record i of a call that was done
pub record Checked (key s results : List ℕ) (i : ℕ) : Type 0 where
  pub key_bytes : AreBytes key
  pub bytes : AreBytes s
  pub done : links_number key s results ≡ 0
  pub inside : i < length results

-- the record itself, and its byte of the output afterwards
abbrev pub link_of : List ℕ → ℕ → List ℕ
link_of s i = record_at s (32 * i)

abbrev pub result_of : (key s results : List ℕ) (i : ℕ) → ℕ
result_of key s results i = get_or (links_results key s results) i 0

-- it is 1 exactly when the call for a whole message, with the claim block as A and an empty C, writes the record's last 16 bytes
abbrev pub OneHashEach : Type 0
OneHashEach =
    (key s results out : List ℕ) (i : ℕ) → Checked key s results i → length out ≡ 16
    → (result_of key s results i ≡ 1) ↔ (hash_out key (claim_of (link_of s i)) [] out ≡ drop 16 (link_of s i))

-- under a key that is not zero: of two records with the same expected hash and different claim blocks, in one call or in two, at most one
-- gets 1
abbrev pub AtMostOne : Type 0
AtMostOne =
    (key s results s' results' : List ℕ) (i j : ℕ) → NonzeroKey key → Checked key s results i → Checked key s' results' j
    → expected_of (link_of s i) ≡ expected_of (link_of s' j) → claim_of (link_of s i) ≢ claim_of (link_of s' j)
    → result_of key s results i ≡ 1 → result_of key s' results' j ≡ 1 → ⊥

-- which records these speak of: each one of any bytes, in whole records, with a byte of the output for each
abbrev pub AnyRecords : Type 0
AnyRecords =
    (key s results : List ℕ) (i : ℕ) → AreBytes key → AreBytes s → length key ≡ 16 → length s ≡ 32 * length results → i < length results
    → Checked key s results i
