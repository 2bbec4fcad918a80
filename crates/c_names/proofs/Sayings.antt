-- What is told of a class, case by case.
use Rattle.std.specs.Prelude.{ℕ, ◌≤◌, ◌<◌, ◌≡◌, List, replicate}
use Rattle.std.proofs.Common.{ap, ◌∙◌, lt-ltb, le-ltb}
use Rattle.wire.specs.TypeNumber.{class_number, at_most_three}
use Rattle.wire.specs.TypeLaws.{class_is}
use Rattle.wire.specs.declared.types.MessageClass.{MessageClass}
use Rattle.names.specs.Names.{class_name}
use Rattle.c_names.specs.Name.{told, class_told}
use Rattle.c_names.specs.declared.Name.{Name}

pub no_class : (c : ℕ) → 3 < c → record { text = replicate 32 0; size = 0 } ≡ class_told c
unfolding class_told
no_class c h = rw (lt-ltb 3 c h)

pub class : (c : ℕ) (k : MessageClass) {n : List ℕ} {r : Name} → c ≤ 3 → class_number k ≡ at_most_three c → n ≡ class_name k → r ≡ told n → r ≡ class_told c
unfolding class_told
class c k h e f g = rw (le-ltb 3 c h) (g ∙ ap told (f ∙ ap class_name (class_is c k e)))
