use Prim.Native.Nat.{ℕ}
use mathlib.Core.Path.{◌≡◌, ◌∙◌, ap}
use native.Mathlib.Omega.{arith}
use lib.ListN.{length}
use Rattle.cursor.proofs.LoadLaws.{load_more, load_length, load_done}
use Rattle.cursor.proofs.load.Goals as goal
use Rattle.cursor.proofs.load.Goals.{At-loop-j}

-- the table keeps its length
table_length : (c : At-loop-j) → length c.loop-j.work ≡ length c.args.work.now
table_length c =
    let a = c.args in
    ap length c.loop-j.invariant ∙ load_length a.list.now a.work.now c.loop-j.j (omega arith) (omega arith)

pub put-requires : goal.put-requires
put-requires c =
    let e = table_length (goal.at.put-requires c).At-loop-j in record {
      at_in_bounds = omega (arith, e);
      value_bound = omega (arith, e, c.get-s.ensures);
    }

pub loop-j-preserved : goal.loop-j-preserved
loop-j-preserved c =
    let a = c.args in
    c.put.ensures ∙ load_more a.list.now a.work.now _ c.loop-j.j _ c.loop-j.invariant c.get-s.ensures.value (omega arith) (omega arith) (omega arith)

pub shape_of-work : goal.shape_of-work
shape_of-work c = table_length (goal.at.shape_of-work c).At-loop-j

pub returns : goal.returns
returns c =
    let a = c.args in
    c.loop-j.invariant ∙ load_done a.list.now a.work.now c.loop-j.j (omega arith)
