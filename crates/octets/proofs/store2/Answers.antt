-- `store2` meets its contract. Assumes nothing.
use mathlib.Core.Path.{ap}
use Prim.Native.Nat.{ℕ, ◌/◌, ◌%◌}
use native.Mathlib.Numerals.{add-one}
use native.Mathlib.Omega.{arith}
use lib.ListN.{set, length-set}
use Rattle.octets.specs.BigEndian.{be_bytes}
use Rattle.octets.proofs.store2.Goals as goal

pub bounds-s-at-2 : goal.bounds-s-at-2
bounds-s-at-2 c = simp length-set (omega arith)

pub returns : goal.returns
unfolding be_bytes
returns c =
    let a = c.args in
    ap (λ (i : ℕ). set (set a.s.now a.at (a.v / 256 % 256)) i (a.v % 256)) (add-one a.at)
