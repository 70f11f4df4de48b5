-- Restarts do not change a run (`same-run`): at each of its points the running hash is one that is parked and read back as it was.
-- Assumes nothing.
use Rattle.std.proofs.Common.{ℕ, ◌+◌, ◌%◌, ◌^◌, ◌<◌, true, false, cond, List, [], ◌∷◌, ◌++◌, map, ◌≡◌, refl, ap, subst, ◌∙◌, zero-lt-suc, eq-eqb, ne_eqb, eqb, length, length-set}
use native.Mathlib.Decide.{ℕ_discrete}
use native.Mathlib.Nat.{one-le-pow}
use Rattle.octets.specs.Bytes.{AreBytes}
use Rattle.octets.proofs.BigEndian.{be_at-lt, bytes_bits}
use Rattle.octets.proofs.Tests.{both}
use Rattle.gf128.specs.Bytes.{block_at}
use Rattle.gf128.specs.Pieces.{fed_all, answers, run_of}
use Rattle.gf128.specs.Running.{State, Part, fresh, all_zero, malformed, feed_a_refusal, feed_c_refusal, finish_refusal, push, pushed, closed, fed_a, started_c, fed_c, finished, after_feed_a, after_feed_c, after_finish}
use Rattle.gf128.proofs.Next.{next-lt}
use Rattle.gf128.proofs.Parts.{push-full, push-open, closed-whole, closed-open}
use Rattle.gf128.proofs.Running.{fed-a-sound, fed-c-sound, finished-sound}
use Rattle.ghash_parked.specs.Park.{Reading, park_number, parked_into, unparked}
use Rattle.ghash_restarts.specs.RoundTrip.{Held}
use Rattle.ghash_restarts.specs.Restarts.{Event, piece, restart, pieces, Buffers, restarted, after, fed, restart_numbers, restarted_run, SameRun, AnyBuffers}
use Rattle.ghash_restarts.proofs.RoundTrip.{parked-is-read}

-- ---- what every call keeps: Y is a block, and the open block has 16 bytes

abbrev Full : Part → Type 0
Full p = (p.y < 2 ^ 128) × (length p.block ≡ 16)

module _ (h : ℕ) (hh : h < 2 ^ 128) where
  push-full-part : (n : ℕ) (p : Part) (b : ℕ) → Full p → Full (push h n p b)
  push-full-part n p b f = go (ℕ_discrete (n % 16) 15)
    where
      go : Dec (n % 16 ≡ 15) → Full (push h n p b)
      go (yes e) = rw (push-full h n p b e) (next-lt h p.y _ hh, refl)
      go (no e) = rw (push-open h n p b e) (f.0, length-set p.block (n % 16) b ∙ f.1)

  pushed-full : (bs : List ℕ) (n : ℕ) (p : Part) → Full p → Full (pushed h n p bs)
  unfolding pushed
  pushed-full [] n p f = f
  pushed-full (b ∷ bs) n p f = pushed-full bs (n + 1) (push h n p b) (push-full-part n p b f)

  closed-full : (n : ℕ) (p : Part) → Full p → Full (closed h n p)
  closed-full n p f = go (ℕ_discrete (n % 16) 0)
    where
      go : Dec (n % 16 ≡ 0) → Full (closed h n p)
      go (yes e) = rw (closed-whole h n p e) f
      go (no e) = rw (closed-open h n p e) (next-lt h p.y _ hh, refl)

  started-full : (s : State) → Held s → Full (started_c h s)
  unfolding started_c
  started-full s f = go (ℕ_discrete s.phase 0)
    where
      go : Dec (s.phase ≡ 0) → Full (started_c h s)
      go (yes e) = rw (eq-eqb s.phase 0 e) (closed-full s.count_a (record { y = s.y; block = s.block }) (f.y, f.block))
      go (no e) = rw (ne_eqb s.phase 0 e) (f.y, f.block)

  fed-a-held : (s : State) (bs : List ℕ) → Held s → Held (fed_a h s bs)
  unfolding fed_a
  fed-a-held s bs f =
      let t = pushed-full bs s.count_a (record { y = s.y; block = s.block }) (f.y, f.block) in
      record { y = t.0; block = t.1 }

  fed-c-held : (s : State) (bs : List ℕ) → Held s → Held (fed_c h s bs)
  unfolding fed_c
  fed-c-held s bs f = let t = pushed-full bs s.count_c (started_c h s) (started-full s f) in record { y = t.0; block = t.1 }

  finished-held : (s : State) → Held (finished h s)
  unfolding finished
  finished-held s = record { y = next-lt h _ _ hh; block = refl }

-- ---- so a run never leaves what cannot be parked

pub record Parkable (s : State) : Type 0 where
  pub held : Held s
  pub well : malformed s ≡ false

parkable-fresh : Parkable fresh
parkable-fresh = record { held = record { y = one-le-pow 128 2 (zero-lt-suc 1); block = refl }; well = refl }

-- a call that is done leaves `done`, and one that is refused s
kept : (refusal : ℕ) (done s : State) → Held done → (refusal ≡ 0 → malformed (cond (eqb refusal 0) done s) ≡ false) → Parkable s
    → Parkable (cond (eqb refusal 0) done s)
kept refusal done s h m g = go (ℕ_discrete refusal 0)
  where
    go : Dec (refusal ≡ 0) → Parkable (cond (eqb refusal 0) done s)
    go (yes e) = record { held = rw (eq-eqb refusal 0 e) h; well = m e }
    go (no e) = rw (ne_eqb refusal 0 e) g

module _ (key : List ℕ) (bytes : AreBytes key) where
  key-lt : block_at key 0 < 2 ^ 128
  key-lt = subst (λ (m : ℕ). block_at key 0 < m) (bytes_bits 16) (be_at-lt key bytes 0 16)

  after-a : (s : State) (p : List ℕ) → Parkable s → Parkable (after_feed_a key s p)
  after-a s p g = kept (feed_a_refusal key s p) (fed_a (block_at key 0) s p) s (fed-a-held (block_at key 0) key-lt s p g.held) (fed-a-sound key s p) g

  after-c : (s : State) (p : List ℕ) → Parkable s → Parkable (after_feed_c key s p)
  after-c s p g = kept (feed_c_refusal key s p) (fed_c (block_at key 0) s p) s (fed-c-held (block_at key 0) key-lt s p g.held) (fed-c-sound key s p) g

  after-end : (s : State) → Parkable s → Parkable (after_finish key s)
  after-end s g = kept (finish_refusal key s) (finished (block_at key 0) s) s (finished-held (block_at key 0) key-lt s) (finished-sound key s) g

-- ---- a row of pieces and restarts

restart-same : (s : State) (buffer : List ℕ) → Parkable s → length buffer ≡ 48 → restarted s buffer ≡ s
restart-same s buffer g e = ap (λ (r : Reading). r.state) (parked-is-read s buffer g.held g.well e).1

zeros : (x y : ℕ) (ns : List ℕ) → x ≡ 0 → y ≡ 0 → all_zero ns ≡ true → all_zero (x ∷ y ∷ ns) ≡ true
zeros x y ns p q r = rw (p, q) r

module _ (number : State → List ℕ → ℕ) (feed : State → List ℕ → State) (keeps : (s : State) (p : List ℕ) → Parkable s → Parkable (feed s p)) where
  pub record Row (s : State) (es : List Event) : Type 0 where
    pub same : after feed s es ≡ fed_all feed s (pieces es)
    pub numbers : fed number feed s es ≡ answers number feed s (pieces es)
    pub restarts : all_zero (restart_numbers feed s es) ≡ true
    pub left : Parkable (fed_all feed s (pieces es))

  row : (es : List Event) (s : State) → Buffers es → Parkable s → Row s es
  unfolding pieces after fed restart_numbers fed_all answers
  row [] s b g = record { same = refl; numbers = refl; restarts = refl; left = g }
  row (piece p ∷ es) s b g =
      let r = row es (feed s p) b (keeps s p g) in
      record {
        same = r.same;
        numbers = ap {A = List ℕ} {B = List ℕ} (λ ns. number s p ∷ ns) r.numbers;
        restarts = r.restarts;
        left = r.left;
      }
  row (restart buffer ∷ es) s b g =
      let t = parked-is-read s buffer g.held g.well b.0 in
      let e = restart-same s buffer g b.0 in
      let r = row es s b.1 g in
      record {
        same = rw e r.same;
        numbers = rw e r.numbers;
        restarts = zeros (park_number s (length buffer)) (unparked (parked_into s buffer)).number (restart_numbers feed (restarted s buffer) es) t.0 (ap (λ (x : Reading). x.number) t.1) (rw e r.restarts);
        left = r.left;
      }

-- two lists of zeros
both-zeros : (xs ys : List ℕ) → all_zero xs ≡ true → all_zero ys ≡ true → all_zero (xs ++ ys) ≡ true
both-zeros [] ys p q = q
both-zeros (x ∷ xs) ys p q =
    let t = both (eqb x 0) (all_zero xs) p in rw (t.0, both-zeros xs ys t.1 q)

no_pieces : (bs : List (List ℕ)) → pieces (map restart bs) ≡ []
unfolding pieces
no_pieces [] = refl
no_pieces (b ∷ bs) = no_pieces bs

pub same-run : SameRun
unfolding restarted_run run_of fed_all
same-run key in_a in_c later k ba bc bl =
    let a = row (feed_a_refusal key) (after_feed_a key) (after-a key k) in_a fresh ba parkable-fresh in
    let s = fed_all (after_feed_a key) fresh (pieces in_a) in
    let c = row (feed_c_refusal key) (after_feed_c key) (after-c key k) in_c s bc a.left in
    let t = fed_all (after_feed_c key) s (pieces in_c) in
    let e = row (feed_c_refusal key) (after_feed_c key) (after-c key k) (map restart later) (after_finish key t) bl (after-end key k t c.left) in
    let last = restart_numbers (after_feed_c key) (after_finish key t) (map restart later) in
    let zeros-c = both-zeros (restart_numbers (after_feed_c key) s in_c) last c.restarts e.restarts in
    rw (a.same, c.same, e.same, no_pieces later, a.numbers, c.numbers)
    (refl, both-zeros (restart_numbers (after_feed_a key) fresh in_a) (restart_numbers (after_feed_c key) s in_c ++ last) a.restarts zeros-c)

pub any-buffers : AnyBuffers
any-buffers = (tt, λ p buffer es e b. (b, (e, b)))
