-- One changed block shows in the hash of a whole message (`one-changed-block-shows`), of one fed in parts
-- (`one-changed-block-shows-in-parts`), and in the bytes written (`one-changed-block-shows-in-bytes`). Assumes nothing.
use Rattle.std.proofs.Common.{◌≡◌, refl, sym, ap, ap₂, ◌∙◌, subst, subst₂, List, ℕ, ◌^◌, ◌≤◌, ◌<◌, mod-eq_of_lt, eq-eqb, le-ltb, length}
use Rattle.octets.specs.BigEndian.{be_at}
use Rattle.octets.specs.Bytes.{AreBytes}
use Rattle.octets.proofs.BigEndian.{be_at-lt, be_at-be_bytes}
use Rattle.gf128.specs.Bytes.{block_at, block_bytes}
use Rattle.gf128.specs.Entries.{hash_block, out_bytes}
use Rattle.gf128.specs.Hash.{over, blocks_of, length_block, ghash, limit}
use Rattle.gf128.specs.Pieces.{joined, run_of}
use Rattle.gf128.proofs.Differ.{one-changed-ghash}
use Rattle.gf128.proofs.Hash.{ghash-parts}
use Rattle.gf128.proofs.Running.{pieces-as-whole}
use Rattle.gf128.proofs.Next.{next-lt}
use Rattle.theorems.specs.Changed.{NonzeroKey, IsMessage, Written, whole, parts, OneChangedBlockShows, OneChangedBlockShowsInParts, OneChangedBlockShowsInBytes}

-- the call for a message is not refused
pub not-refused : (key a c : List ℕ) → length key ≡ 16 → IsMessage a c → hash_block key a c ≡ ghash (block_at key 0) a c
not-refused key a c k m =
    rw (eq-eqb (length key) 16 k, le-ltb limit (length a) m.within_a, le-ltb limit (length c) m.within_c)

pub one-changed-block-shows : OneChangedBlockShows
one-changed-block-shows key a c a' c' k m e =
    one-changed-ghash (block_at key 0) (be_at-lt key k.bytes 0 16) k.not_zero a c a' c'
    m.first.bytes_a m.first.bytes_c m.second.bytes_a m.second.bytes_c
    m.lengths_a m.lengths_c m.once
    (sym (not-refused key a c k.sixteen m.first) ∙ e ∙ not-refused key a' c' k.sixteen m.second)

pub one-changed-block-shows-in-parts : OneChangedBlockShowsInParts
one-changed-block-shows-in-parts key ps qs ps' qs' k m e =
    one-changed-block-shows key (joined ps) (joined qs) (joined ps') (joined qs') k m
    (sym (pieces-as-whole key ps qs k.sixteen m.first.within_a m.first.within_c) ∙ e
    ∙ pieces-as-whole key ps' qs' k.sixteen m.second.within_a m.second.within_c)

-- ---- the bytes

pub bytes-differ : (u v : ℕ) → u < 256 ^ 16 → v < 256 ^ 16 → block_bytes u ≡ block_bytes v → u ≡ v
bytes-differ u v hu hv e =
    sym (mod-eq_of_lt hu) ∙ sym (be_at-be_bytes 16 u) ∙ ap (λ (s : List ℕ). be_at s 0 16) e ∙ be_at-be_bytes 16 v ∙ mod-eq_of_lt hv

pub hash-lt : (key a c : List ℕ) → AreBytes key → length key ≡ 16 → IsMessage a c → hash_block key a c < 2 ^ 128
hash-lt key a c b k m =
    let h = block_at key 0 in
    subst₂ ◌<◌ (sym (not-refused key a c k m ∙ ghash-parts h a c)) refl
    (next-lt h (over h (over h 0 (blocks_of a)) (blocks_of c)) (length_block (length a) (length c)) (be_at-lt key b 0 16))

pub into-16 : (out : List ℕ) (v : ℕ) → length out ≡ 16 → out_bytes out v ≡ block_bytes v
into-16 out v e = rw (eq-eqb (length out) 16 e)

written : (key a c bytes : List ℕ) → NonzeroKey key → IsMessage a c → Written key a c bytes → bytes ≡ block_bytes (hash_block key a c)
written key a c bytes k m (whole out l e) = e ∙ into-16 out (hash_block key a c) l
written key a c bytes k m (parts ps qs out ea ec l e) =
    let within : (s t : List ℕ) → s ≡ t → length t ≤ limit → length s ≤ limit = λ s t p. subst (λ (r : List ℕ). length r ≤ limit) (sym p) in
    e ∙ into-16 out (run_of key ps qs).block l
    ∙ ap block_bytes
    (pieces-as-whole key ps qs k.sixteen (within (joined ps) a ea m.within_a) (within (joined qs) c ec m.within_c) ∙ ap₂ (hash_block key) ea ec)

pub one-changed-block-shows-in-bytes : OneChangedBlockShowsInBytes
one-changed-block-shows-in-bytes key a c a' c' bytes bytes' k m w w' e =
    one-changed-block-shows key a c a' c' k m
    (bytes-differ (hash_block key a c) (hash_block key a' c') (hash-lt key a c k.bytes k.sixteen m.first)
    (hash-lt key a' c' k.bytes k.sixteen m.second)
    (sym (written key a c bytes k m.first w) ∙ e ∙ written key a' c' bytes' k m.second w'))
