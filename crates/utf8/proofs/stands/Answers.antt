use Rattle.std.proofs.Common.{rules, arith, ◌≡◌, ◌-◌, length, drop, take_all, length-take-le, length-drop, ap, ◌∙◌}
use Rattle.std.proofs.lemmas.Slice.Zip.{Zip-more, either_empty_from_Zip}
use Rattle.utf8.proofs.Tails.{too_few, standing_start, standing_turn, standing_done}
use Rattle.utf8.proofs.stands.Goals as goal

pub returns-in_default : goal.returns-in_default
returns-in_default g c =
    let s = c.args.s.now in
    let rest = take_all (length s - c.args.at) (drop c.args.at s) (omega (arith, length-drop c.args.at s)) in
    too_few c.args.row.now s c.args.at g.row.N c.told-row c.requires (rw rest at c.in_default.ensures.cases)

pub loop-b-init : goal.loop-b-init
loop-b-init g c =
    let s = c.args.s.now in
    let rest = take_all (length s - c.args.at) (drop c.args.at s) (omega (arith, length-drop c.args.at s)) in
    let chunk = rw rest at c.in-Some.ensures.cases in
    let size : length c.in-Some.bytes.now ≡ g.row.N = ap length chunk.same ∙ length-take-le g.row.N (drop c.args.at s) chunk.enough in
    let start = standing_start c.args.row.now (drop c.args.at s) c.in-Some.bytes.now g.row.N c.told-row size chunk.same in
    search (rules, start)

pub loop-b-preserved : goal.loop-b-preserved
loop-b-preserved g c =
    let heads = Zip-more c.loop-b.b-iterator c.next.new.self _ _ c.in-Some-2.is c.next.ensures.steps in
    standing_turn c.loop-b.invariant heads.0 heads.1 c.right-all.ensures

pub returns : goal.returns
returns g c = standing_done c.loop-b.invariant (either_empty_from_Zip c.loop-b.b-iterator c.next.new.self _ c.in-None.is c.next.ensures.steps)
