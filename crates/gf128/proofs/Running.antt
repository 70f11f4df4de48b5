-- The running hash: states that are not malformed, calls that are taken, and messages in pieces.
-- Main results: `any-pieces`, `pieces-as-whole` (however A and C are cut, every call is taken and the finish gives the hash of the whole),
-- `fed-a-sound`, `fed-c-sound`, `finished-sound` (no call leaves a malformed state).
-- Assumes nothing.
use mathlib.Core.Path.{◌≡◌, refl, sym, ap, ap₂, ◌∙◌}
use mathlib.Core.Bool.{Bool, true, false, true≢false, cond, not, ◌&&◌, ◌||◌}
use mathlib.Core.List.{List, [], ◌∷◌, ◌++◌, append_assoc, append-nil}
use Prim.Native.Nat.{ℕ, ◌+◌, ◌%◌, ◌≤◌}
use native.Mathlib.Nat.{zero-add}
use native.Mathlib.Decide.{ℕ_discrete}
use native.Mathlib.Omega.{arith}
use borrow.Author.Tests.{eq-eqb, ne_eqb, le-ltb, ltb-false, eqb-true, eqb-false, not-false}
use lib.Dec.{eqb, ltb}
use lib.ListN.{length, drop, replicate, length-append, replicate-append-replicate}
use Rattle.gf128.specs.Bytes.{block_at}
use Rattle.gf128.specs.Hash.{next, over, blocks_of, length_block, ghash, limit}
use Rattle.gf128.specs.Running.{State, Part, no_bytes, fresh, all_zero, open_bytes, malformed, feed_a_refusal, feed_c_refusal, finish_refusal, pushed, closed, fed_a, fed_c, started_c, finished, after_feed_a, after_feed_c, after_finish}
use Rattle.gf128.specs.Pieces.{joined, fed_all, answers, fed_all_a, fed_all_c, answers_a, answers_c, run_of, AnyPieces, PiecesAsWhole}
use Rattle.gf128.proofs.Hash.{blocks_of-empty, ghash-parts}
use Rattle.gf128.proofs.Parts.{part, part_at, part-fresh, pushed-part, pushed-fresh, pushed-zeros, closed-part, closed-zeros, zeros-drop}

-- ---- states that are not malformed

pub record Sound (s : State) : Type 0 where
  pub phase-in : s.phase ≤ 2
  pub a_in : s.count_a ≤ limit
  pub c-in : s.count_c ≤ limit
  pub none_yet : s.phase ≡ 0 → s.count_c ≡ 0
  pub zeros : all_zero (drop (open_bytes s) s.block) ≡ true

-- each test of `malformed`, where none holds
none : (a b c d e : Bool) → (a || (b || (c || (d || not e)))) ≡ false → (a ≡ false) × (b ≡ false) × (c ≡ false) × (d ≡ false) × (e ≡ true)
none false false false false true p = (refl, refl, refl, refl, refl)
none false false false false false p = absurd (true≢false p)
none false false false true e p = absurd (true≢false p)
none false false true d e p = absurd (true≢false p)
none false true c d e p = absurd (true≢false p)
none true b c d e p = absurd (true≢false p)

neither : (a b : Bool) → (a || b) ≡ false → (a ≡ false) × (b ≡ false)
neither false false p = (refl, refl)
neither false true p = absurd (true≢false p)
neither true b p = absurd (true≢false p)

pub sound : (s : State) → malformed s ≡ false → Sound s
sound s m =
    let t =
    none (ltb 2 s.phase) (ltb limit s.count_a) (ltb limit s.count_c) (eqb s.phase 0 && not (eqb s.count_c 0))
    (all_zero (drop (open_bytes s) s.block)) m in
    record {
      phase-in = ltb-false 2 s.phase t.0;
      a_in = ltb-false limit s.count_a t.1;
      c-in = ltb-false limit s.count_c t.2;
      none_yet = λ e. eqb-true s.count_c 0 (not-false (eqb s.count_c 0) (rw (eq-eqb s.phase 0 e) at t.3));
      zeros = t.4;
    }

pub well-formed : (s : State) → Sound s → malformed s ≡ false
well-formed s g =
    rw (le-ltb 2 s.phase g.phase-in, le-ltb limit s.count_a g.a_in, le-ltb limit s.count_c g.c-in, g.zeros, early (ℕ_discrete s.phase 0))
  where
    early : Dec (s.phase ≡ 0) → (eqb s.phase 0 && not (eqb s.count_c 0)) ≡ false
    early (yes e) = rw (eq-eqb s.phase 0 e, eq-eqb s.count_c 0 (g.none_yet e))
    early (no f) = rw (ne_eqb s.phase 0 f)

-- ---- a call that is not refused

-- every test passed
passed : (k m l : Bool) → ◌≡◌ {A = ℕ} (cond (not k) 9 (cond m 10 (cond l 11 0))) 0 → (k ≡ true) × (m ≡ false) × (l ≡ false)
passed true false false e = (refl, refl, refl)
passed true false true e = absurd (omega arith)
passed true true l e = absurd (omega arith)
passed false m l e = absurd (omega arith)

-- what finishing refuses, every call refuses with the same number
first : (k m x y l : Bool) → (x ≡ true → y ≡ true) → (◌≡◌ {A = ℕ} (cond (not k) 9 (cond (m || x) 10 0)) 0 → ⊥)
    → ◌≡◌ {A = ℕ} (cond (not k) 9 (cond (m || y) 10 (cond l 11 0))) (cond (not k) 9 (cond (m || x) 10 0))
first false m x y l i f = refl
first true true x y l i f = refl
first true false true y l i f = rw (i refl)
first true false false y l i f = absurd (f refl)

module _ (key : List ℕ) (s : State) where
  pub first-a : (p : List ℕ) → (finish_refusal key s ≡ 0 → ⊥) → feed_a_refusal key s p ≡ finish_refusal key s
  first-a p f =
      first (eqb (length key) 16) (malformed s) (eqb s.phase 2) (not (eqb s.phase 0)) (ltb limit (s.count_a + length p))
      (λ e. rw (eqb-true s.phase 2 e)) f

  pub first-c : (p : List ℕ) → (finish_refusal key s ≡ 0 → ⊥) → feed_c_refusal key s p ≡ finish_refusal key s
  first-c p f =
      first (eqb (length key) 16) (malformed s) (eqb s.phase 2) (eqb s.phase 2) (ltb limit (s.count_c + length p)) (λ e. e) f

  -- what it does not refuse
  pub record Open : Type 0 where
    pub key_fits : length key ≡ 16
    pub well : Sound s
    pub unfinished : s.phase ≡ 2 → ⊥

  pub open-call : finish_refusal key s ≡ 0 → Open
  open-call e =
      let t = passed (eqb (length key) 16) (malformed s || eqb s.phase 2) false e in
      let u = neither (malformed s) (eqb s.phase 2) t.1 in
      record { key_fits = eqb-true (length key) 16 t.0; well = sound s u.0; unfinished = eqb-false s.phase 2 u.1 }

pub started-zeros : (h : ℕ) (s : State) → Sound s → (s.phase ≡ 2 → ⊥) → all_zero (drop (s.count_c % 16) (started_c h s).block) ≡ true
unfolding started_c
started-zeros h s g f = go (ℕ_discrete s.phase 0)
  where
    go : Dec (s.phase ≡ 0) → all_zero (drop (s.count_c % 16) (started_c h s).block) ≡ true
    go (yes e) =
        rw (eq-eqb s.phase 0 e)
        (zeros-drop (s.count_c % 16) (closed h s.count_a (part s.y s.block)).block
        (closed-zeros h s.count_a (part s.y s.block) (rw (eq-eqb s.phase 0 e) at g.zeros)))
    go (no n) =
        let one : s.phase ≡ 1 = omega (arith, g.phase-in) in
        rw (ne_eqb s.phase 0 n) (rw (ne_eqb s.phase 0 n, eq-eqb s.phase 1 one) at g.zeros)

module _ (h : ℕ) (s : State) (piece : List ℕ) (g : Sound s) where
  sound-a : s.phase ≡ 0 → s.count_a + length piece ≤ limit → Sound (fed_a h s piece)
  unfolding fed_a
  sound-a e r =
      record {
        phase-in = omega arith;
        a_in = r;
        c-in = g.c-in;
        none_yet = λ _. g.none_yet e;
        zeros = pushed-zeros h piece s.count_a (part s.y s.block) (rw (eq-eqb s.phase 0 e) at g.zeros);
      }

  sound-c : (s.phase ≡ 2 → ⊥) → s.count_c + length piece ≤ limit → Sound (fed_c h s piece)
  unfolding fed_c
  sound-c f r =
      record {
        phase-in = omega arith;
        a_in = g.a_in;
        c-in = r;
        none_yet = λ e. absurd (omega arith);
        zeros = pushed-zeros h piece s.count_c (started_c h s) (started-zeros h s g f);
      }

sound-finished : (h : ℕ) (s : State) → Sound s → Sound (finished h s)
unfolding finished
sound-finished h s g =
    record { phase-in = omega arith; a_in = g.a_in; c-in = g.c-in; none_yet = λ e. absurd (omega arith); zeros = refl }

pub fed-a-sound : (key : List ℕ) (s : State) (piece : List ℕ) → feed_a_refusal key s piece ≡ 0 → malformed (after_feed_a key s piece) ≡ false
fed-a-sound key s piece e =
    let t = passed (eqb (length key) 16) (malformed s || not (eqb s.phase 0)) (ltb limit (s.count_a + length piece)) e in
    let u = neither (malformed s) (not (eqb s.phase 0)) t.1 in
    rw (eq-eqb (feed_a_refusal key s piece) 0 e)
    (well-formed (fed_a (block_at key 0) s piece)
    (sound-a (block_at key 0) s piece (sound s u.0) (eqb-true s.phase 0 (not-false (eqb s.phase 0) u.1))
    (ltb-false limit (s.count_a + length piece) t.2)))

pub fed-c-sound : (key : List ℕ) (s : State) (piece : List ℕ) → feed_c_refusal key s piece ≡ 0 → malformed (after_feed_c key s piece) ≡ false
fed-c-sound key s piece e =
    let t = passed (eqb (length key) 16) (malformed s || eqb s.phase 2) (ltb limit (s.count_c + length piece)) e in
    let u = neither (malformed s) (eqb s.phase 2) t.1 in
    rw (eq-eqb (feed_c_refusal key s piece) 0 e)
    (well-formed (fed_c (block_at key 0) s piece)
    (sound-c (block_at key 0) s piece (sound s u.0) (eqb-false s.phase 2 u.1) (ltb-false limit (s.count_c + length piece) t.2)))

pub finished-sound : (key : List ℕ) (s : State) → finish_refusal key s ≡ 0 → malformed (after_finish key s) ≡ false
finished-sound key s e =
    rw (eq-eqb (finish_refusal key s) 0 e) (well-formed (finished (block_at key 0) s) (sound-finished (block_at key 0) s (open-call key s e).well))

-- ---- any pieces

abbrev pub state : Part → ℕ → ℕ → ℕ → State
state p a c phase = record { y = p.y; block = p.block; count_a = a; count_c = c; phase = phase }

-- the state after A's bytes a
abbrev state_a : ℕ → List ℕ → State
state_a h a = state (part_at h 0 a) (length a) 0 0

-- the state after the whole of A and C's bytes c
abbrev state_c : ℕ → List ℕ → List ℕ → State
state_c h a c = state (part_at h (over h 0 (blocks_of a)) c) (length a) (length c) 1

-- a part in closed form has zeros from its count on
part-zeros : (h y : ℕ) (l : List ℕ) → all_zero (drop (length l % 16) (part_at h y l).block) ≡ true
part-zeros h y l =
    let e = pushed-fresh h 0 y l refl in
    rw (← e) (rw zero-add at (pushed-zeros h l 0 (part y no_bytes) refl))

sound-at-a : (h : ℕ) (a : List ℕ) → length a ≤ limit → Sound (state_a h a)
sound-at-a h a r = record { phase-in = omega arith; a_in = r; c-in = omega arith; none_yet = λ _. refl; zeros = part-zeros h 0 a }

sound-at-c : (h : ℕ) (a c : List ℕ) → length a ≤ limit → length c ≤ limit → Sound (state_c h a c)
sound-at-c h a c r q =
    record { phase-in = omega arith; a_in = r; c-in = q; none_yet = λ e. absurd (omega arith); zeros = part-zeros h (over h 0 (blocks_of a)) c }

-- what an accepted call makes of these states
fed-a-more : (h : ℕ) (a p : List ℕ) → fed_a h (state_a h a) p ≡ state_a h (a ++ p)
unfolding fed_a
fed-a-more h a p = ap₂ (λ (q : Part) (n : ℕ). state q n 0 0) (pushed-part h 0 p a) (sym (length-append a p))

fed-c-first : (h : ℕ) (a p : List ℕ) → fed_c h (state_a h a) p ≡ state_c h a p
unfolding fed_c started_c
fed-c-first h a p =
    ap₂ (λ (q : Part) (n : ℕ). state q (length a) n 1)
    (ap (λ (q : Part). pushed h 0 q p) (closed-part h 0 a) ∙ pushed-fresh h 0 (over h 0 (blocks_of a)) p refl)
    (zero-add (length p))

fed-c-more : (h : ℕ) (a c p : List ℕ) → fed_c h (state_c h a c) p ≡ state_c h a (c ++ p)
unfolding fed_c started_c
fed-c-more h a c p =
    ap₂ (λ (q : Part) (n : ℕ). state q (length a) n 1) (pushed-part h (over h 0 (blocks_of a)) p c) (sym (length-append c p))

-- finished: Y is the hash
abbrev state_end : ℕ → List ℕ → List ℕ → State
state_end h a c = state (part (ghash h a c) no_bytes) (length a) (length c) 2

finished-a : (h : ℕ) (a : List ℕ) → finished h (state_a h a) ≡ state_end h a []
unfolding finished over
finished-a h a =
    ap (λ (y : ℕ). state (part y no_bytes) (length a) 0 2)
    (ap (λ (p : Part). next h p.y (length_block (length a) 0)) (closed-part h 0 a)
    ∙ sym (ghash-parts h a [] ∙ ap (λ (xs : List ℕ). next h (over h (over h 0 (blocks_of a)) xs) (length_block (length a) 0)) blocks_of-empty))

finished-c : (h : ℕ) (a c : List ℕ) → finished h (state_c h a c) ≡ state_end h a c
unfolding finished
finished-c h a c =
    ap (λ (y : ℕ). state (part y no_bytes) (length a) (length c) 2)
    (ap (λ (p : Part). next h p.y (length_block (length a) (length c))) (closed-part h (over h 0 (blocks_of a)) c)
    ∙ sym (ghash-parts h a c))

-- each call on the way is taken
passes : (k m l : Bool) → k ≡ true → m ≡ false → l ≡ false → ◌≡◌ {A = ℕ} (cond (not k) 9 (cond m 10 (cond l 11 0))) 0
passes k m l p q r = rw (p, q, r)

module _ (key : List ℕ) (k : length key ≡ 16) (s : State) (g : Sound s) where
  pub takes-a : (p : List ℕ) → s.phase ≡ 0 → s.count_a + length p ≤ limit → feed_a_refusal key s p ≡ 0
  takes-a p e r =
      passes (eqb (length key) 16) (malformed s || not (eqb s.phase 0)) (ltb limit (s.count_a + length p))
      (eq-eqb (length key) 16 k)
      (rw (well-formed s g, eq-eqb s.phase 0 e))
      (le-ltb limit (s.count_a + length p) r)

  pub takes-c : (p : List ℕ) → (s.phase ≡ 2 → ⊥) → s.count_c + length p ≤ limit → feed_c_refusal key s p ≡ 0
  takes-c p f r =
      passes (eqb (length key) 16) (malformed s || eqb s.phase 2) (ltb limit (s.count_c + length p))
      (eq-eqb (length key) 16 k)
      (rw (well-formed s g, ne_eqb s.phase 2 f))
      (le-ltb limit (s.count_c + length p) r)

  pub takes-end : (s.phase ≡ 2 → ⊥) → finish_refusal key s ≡ 0
  takes-end f =
      passes (eqb (length key) 16) (malformed s || eqb s.phase 2) false
      (eq-eqb (length key) 16 k)
      (rw (well-formed s g, ne_eqb s.phase 2 f))
      refl

-- a row of calls that are all taken: `at l` is the state after the bytes l
record Step (number : State → List ℕ → ℕ) (feed : State → List ℕ → State) (at : List ℕ → State) (l p : List ℕ) : Type 0 where
  zero-answer : number (at l) p ≡ 0
  on : feed (at l) p ≡ at (l ++ p)

module _ (number : State → List ℕ → ℕ) (feed : State → List ℕ → State) (at : List ℕ → State)
    (taken : (l p : List ℕ) → length (l ++ p) ≤ limit → Step number feed at l p) where
  row : (ps : List (List ℕ)) (l : List ℕ) → length (l ++ joined ps) ≤ limit
      → (fed_all feed (at l) ps ≡ at (l ++ joined ps)) × (answers number feed (at l) ps ≡ replicate (length ps) 0)
  unfolding joined fed_all answers
  row [] l r = (ap at (sym (append-nil l)), refl)
  row (p ∷ ps) l r =
      let w : length ((l ++ p) ++ joined ps) ≤ limit = rw append_assoc r in
      let t = taken l p (omega (arith, length-append (l ++ p) (joined ps))) in
      let ih = row ps (l ++ p) w in (
        ap (λ (s : State). fed_all feed s ps) t.on ∙ ih.0 ∙ ap at (append_assoc l p (joined ps)),
        ap₂ {A = ℕ} {B = List ℕ} {C = List ℕ} (λ x xs. x ∷ xs) t.zero-answer (ap (λ (s : State). answers number feed s ps) t.on ∙ ih.1),
      )

module _ (key : List ℕ) (k : length key ≡ 16) where
  abbrev h : ℕ
  h = block_at key 0

  step-a : (l p : List ℕ) → length (l ++ p) ≤ limit → Step (feed_a_refusal key) (after_feed_a key) (state_a h) l p
  step-a l p r =
      let b : length l + length p ≤ limit = rw length-append at r in
      let t = takes-a key k (state_a h l) (sound-at-a h l (omega arith)) p refl b in
      record { zero-answer = t; on = rw (eq-eqb (feed_a_refusal key (state_a h l) p) 0 t) (fed-a-more h l p) }

  step-c : (a : List ℕ) → length a ≤ limit → (l p : List ℕ) → length (l ++ p) ≤ limit → Step (feed_c_refusal key) (after_feed_c key) (state_c h a) l p
  step-c a ra l p r =
      let b : length l + length p ≤ limit = rw length-append at r in
      let t = takes-c key k (state_c h a l) (sound-at-c h a l ra (omega arith)) p (λ e. omega arith) b in
      record { zero-answer = t; on = rw (eq-eqb (feed_c_refusal key (state_c h a l) p) 0 t) (fed-c-more h a l p) }

  -- from a state that is known, with the numbers so far
  record End (s : State) (a c : List ℕ) : Type 0 where
    answer : finish_refusal key s ≡ 0
    ends : finished h s ≡ state_end h a c

  -- the C pieces of a run, from the whole of A
  row-c : (a : List ℕ) (qs : List (List ℕ)) → length a ≤ limit → length (joined qs) ≤ limit
      → (answers_c key (state_a h a) qs ≡ replicate (length qs) 0) × End (fed_all_c key (state_a h a) qs) a (joined qs)
  unfolding joined fed_all answers
  row-c a [] ra rc =
      (refl, record { answer = takes-end key k (state_a h a) (sound-at-a h a ra) (λ e. omega arith); ends = finished-a h a })
  row-c a (q ∷ qs) ra rc =
      let b : 0 + length q ≤ limit = omega (arith, length-append q (joined qs)) in
      let t = takes-c key k (state_a h a) (sound-at-a h a ra) q (λ e. omega arith) b in
      let e : after_feed_c key (state_a h a) q ≡ state_c h a q = rw (eq-eqb (feed_c_refusal key (state_a h a) q) 0 t) (fed-c-first h a q) in
      let r = row (feed_c_refusal key) (after_feed_c key) (state_c h a) (step-c a ra) qs q rc in
      let c : fed_all_c key (after_feed_c key (state_a h a) q) qs ≡ state_c h a (q ++ joined qs) = ap (λ (s : State). fed_all_c key s qs) e ∙ r.0 in (
        ap₂ {A = ℕ} {B = List ℕ} {C = List ℕ} (λ x xs. x ∷ xs) t (ap (λ (s : State). answers_c key s qs) e ∙ r.1),
        rw c (record {
          answer = takes-end key k (state_c h a (q ++ joined qs)) (sound-at-c h a (q ++ joined qs) ra rc) (λ e. omega arith);
          ends = finished-c h a (q ++ joined qs);
        }),
      )

pub any-pieces : AnyPieces
unfolding run_of
any-pieces key ps qs k ra rc =
    let h : ℕ = block_at key 0 in
    let f : fresh ≡ state_a h [] = ap (λ (p : Part). state p 0 0 0) (sym (part-fresh h 0)) in
    let r = row (feed_a_refusal key) (after_feed_a key) (state_a h) (step-a key k) ps [] ra in
    let a : fed_all_a key fresh ps ≡ state_a h (joined ps) = ap (λ (s : State). fed_all_a key s ps) f ∙ r.0 in
    let c = row-c key k (joined ps) qs ra rc in
    let s : State = fed_all_c key (fed_all_a key fresh ps) qs in
    let e : End key k s (joined ps) (joined qs) = rw a c.1 in
    record {
      taken =
          ap₂ {A = List ℕ} {B = List ℕ} {C = List ℕ} (λ x y. x ++ y)
          (ap (λ (z : State). answers_a key z ps) f ∙ r.1)
          (ap₂ {A = List ℕ} {B = ℕ} {C = List ℕ} (λ x y. x ++ (y ∷ [])) (ap (λ (z : State). answers_c key z qs) a ∙ c.0) e.answer
          ∙ replicate-append-replicate (length qs) 1 0)
          ∙ replicate-append-replicate (length ps) (length qs + 1) 0;
      hash = rw (eq-eqb (finish_refusal key s) 0 e.answer) (ap (λ (z : State). z.y) e.ends);
      end = rw (eq-eqb (finish_refusal key s) 0 e.answer) e.ends;
    }

pub pieces-as-whole : PiecesAsWhole
pieces-as-whole key ps qs k ra rc =
    rw (eq-eqb (length key) 16 k, le-ltb limit (length (joined ps)) ra, le-ltb limit (length (joined qs)) rc) (any-pieces key ps qs k ra rc).hash
