-- `store4` meets its contract: a run of bytes is written in two parts. Assumes nothing.
use mathlib.Core.Path.{ap, ◌∙◌}
use mathlib.Core.List.{List}
use Prim.Native.Nat.{ℕ, ◌+◌}
use lib.Seq.{sets}
use Rattle.octets.specs.BigEndian.{be_bytes}
use Rattle.octets.proofs.BigEndian.{sets-split}
use Rattle.octets.proofs.store4.Goals as goal

pub returns : goal.returns
returns c =
    let a = c.args in
    c.store2-2.ensures
    ∙ ap (λ (l : List ℕ). sets l (a.at + 2) (be_bytes 2 a.v)) c.store2.ensures
    ∙ sets-split a.s.now a.at 2 2 a.v
