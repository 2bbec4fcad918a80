-- What C is told of a reading and of a step of the walk: what the library's answer says, field by field, and nought where it says nothing.
use Rattle.std.specs.Prelude.{ℕ, List, [], eqb, get_or, Result}
use Rattle.base.specs.Choice.{pick}
use Rattle.base.specs.Said.{Said}
use Rattle.wire.specs.declared.refusal.Refusal.{Refusal}
use Rattle.read_message.specs.Reading.{answer_of, id_in, answer_said}
use Rattle.read_message.specs.declared.Reading as message
use Rattle.c_read.specs.declared.Reading.{Reading}
use Rattle.c_read.specs.declared.Step.{Step}

-- class, method and a third value: where whole, kind 0, how many attributes there are, else the place of the one at fault
unfoldable pub reading_out : Said → List ℕ → Reading
reading_out s id = record {
  what = s.kind;
  number = s.number;
  message_class = get_or s.values 0 0;
  method = get_or s.values 1 0;
  count = pick (eqb s.kind 0) (get_or s.values 2 0) 0;
  place = pick (eqb s.kind 0) 0 (get_or s.values 2 0);
  id = record { bytes = id };
}

-- what the answer says, with the ID beside it
unfoldable pub said : Result message.Reading Refusal → Reading
said r = reading_out (answer_said (answer_of r) []) (id_in r)

-- the place, and of an attribute also its type, its value's place and size, and where the next one starts
unfoldable pub step_out : Said → Step
step_out s = record {
  what = s.kind;
  kind = get_or s.values 1 0;
  place = get_or s.values 0 0;
  value = get_or s.values 2 0;
  size = get_or s.values 3 0;
  next = get_or s.values 4 0;
}
