-- What C is told of names.
use Rattle.std.specs.Prelude.{ℕ, List, length, replicate, ltb}
use Rattle.base.specs.Choice.{pick}
use Rattle.buffers.specs.Put.{put}
use Rattle.wire.specs.TypeNumber.{class_numbered}
use Rattle.names.specs.Names.{class_name}
use Rattle.c_names.specs.declared.Name.{Name}

-- at the front of 32 bytes, zeros behind
unfoldable pub told : List ℕ → Name
told s = record { text = put (replicate {A = ℕ} 32 0) 0 s; size = length s }

-- a class above 3 is none, and has no name
unfoldable pub class_told : ℕ → Name
class_told c = pick (ltb 3 c) (record { text = replicate 32 0; size = 0 }) (told (class_name (class_numbered c)))
