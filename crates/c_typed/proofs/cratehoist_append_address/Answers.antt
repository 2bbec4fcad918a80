use Rattle.std.proofs.Common.{◌≡◌, sym, ap, ◌∙◌}
use Rattle.net.specs.Net.{family_number}
use Rattle.write_begin.specs.SaidLaws.{written_one}
use Rattle.c_typed.proofs.Addresses.{tells, keeps, tells_none, keeps_none}
use Rattle.c_typed.proofs.cratehoist_append_address.Goals as goal
use Rattle.c_typed.proofs.cratehoist_append_address.Goals.{in-1, in-2}

pub returns-in_default : goal.returns-in_default
returns-in_default c = (search (tells_none, written_one), search (keeps_none))

pub returns : goal.returns
returns c =
    elim c.match-family.branch [
      | in-1 w ↦
          let e : c.args.address.family ≡ family_number c.match-family.family = w.in-1.is ∙ ap family_number (sym w.family-is) in
          (search (tells, written_one, e), search (keeps, e))
      | in-2 w ↦
          let e : c.args.address.family ≡ family_number c.match-family.family = w.in-2.is ∙ ap family_number (sym w.family-is) in
          (search (tells, written_one, e), search (keeps, e))
    ]
