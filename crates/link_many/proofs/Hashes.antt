-- The hash of one block as A (`one_block`), with an empty C, by one product with the key's square: `hash-by-square`.
-- Assumes nothing.
use Rattle.std.proofs.Common.{◌≡◌, ap, ap₂, ◌∙◌, List, [], ◌∷◌, ℕ, ◌+◌, ◌/◌, ◌^◌, ◌<◌, arith, bit_xor, length}
use Rattle.gf128.specs.Bytes.{block_at}
use Rattle.gf128.specs.Field.{product}
use Rattle.gf128.specs.Hash.{next, over, blocks_from, blocks_of, length_block, ghash}
use Rattle.gf128.proofs.Field.{product-xor-left, product-assoc}
use Rattle.gf128.proofs.Hash.{blocks_of-empty, ghash-parts}

-- 16 bytes are one block
pub one_block : (a : List ℕ) → length a ≡ 16 → blocks_of a ≡ block_at a 0 ∷ []
unfolding blocks_of blocks_from
one_block a e =
    let n : (length a + 15) / 16 ≡ 1 = omega arith in
    ap (blocks_from a 0) n

-- (X·H xor L)·H is X·H² xor L·H
pub hash-by-square : (h : ℕ) (a : List ℕ) → h < 2 ^ 128 → length a ≡ 16
    → ghash h a [] ≡ bit_xor (product (block_at a 0) (product h h)) (product (length_block 16 0) h)
unfolding over next
hash-by-square h a hh e =
    let x = block_at a 0 in
    let l = length_block 16 0 in
    ghash-parts h a []
    ∙ ap₂ (λ (y : ℕ) (n : ℕ). next h y (length_block n 0)) (ap₂ (λ (p q : List ℕ). over h (over h 0 p) q) (one_block a e) blocks_of-empty) e
    ∙ product-xor-left (product x h) l h
    ∙ ap (λ (v : ℕ). bit_xor v (product l h)) (product-assoc x h h hh hh)
