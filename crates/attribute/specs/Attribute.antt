-- An attribute, and the attributes of a body (RFC 5389 section 15; docs/SCOPE.md, "An attribute").
use Rattle.std.specs.Prelude.{ℕ, zero, suc, ◌+◌, ◌-◌, ◌*◌, ◌/◌, ◌%◌, List, [], ◌∷◌, ◌++◌, length, take, drop, leb}
use Rattle.base.specs.Choice.{pick}

-- a size with its padding up to a multiple of four
abbrev pub padded : ℕ → ℕ
padded n = n + (4 - n % 4) % 4

-- an attribute: its type, its value, and its padding of any content
pub record Attr : Type 0 where
  pub kind : ℕ
  pub value : List ℕ
  pub pad : List ℕ

-- what a body holds: attributes one after the other, and then a rest that is none: nothing where they cover the body
pub data Body : Type 0 where
  stop : List ℕ → Body
  more : Attr → Body → Body

abbrev pub attrs : Body → List Attr
attrs (stop r) = []
attrs (more a b) = a ∷ attrs b

abbrev pub rest : Body → List ℕ
rest (stop r) = r
rest (more a b) = rest b

-- the attribute of type k and size n whose value and padding start the list r
abbrev pub attr_of : ℕ → ℕ → List ℕ → Attr
attr_of k n r = record { kind = k; value = take n r; pad = take (padded n - n) (drop n r) }

-- `parse k s`: the attributes of s from its k-th byte on; the k bytes before belong to an attribute that was read already
unfoldable pub parse : ℕ → List ℕ → Body
parse (suc k) [] = stop []
parse (suc k) (a ∷ r) = parse k r
parse zero [] = stop []
parse zero (a ∷ []) = stop (a ∷ [])
parse zero (a ∷ b ∷ []) = stop (a ∷ b ∷ [])
parse zero (a ∷ b ∷ c ∷ []) = stop (a ∷ b ∷ c ∷ [])
parse zero (a ∷ b ∷ c ∷ e ∷ r) =
    pick (leb (padded (c * 256 + e)) (length r))
    (more (attr_of (a * 256 + b) (c * 256 + e) r) (parse (padded (c * 256 + e)) r))
    (stop (a ∷ b ∷ c ∷ e ∷ r))

-- an attribute's bytes, and those of several
abbrev pub bytes_of : Attr → List ℕ
bytes_of a = a.kind / 256 ∷ a.kind % 256 ∷ length a.value / 256 ∷ length a.value % 256 ∷ a.value ++ a.pad

abbrev pub all_bytes : List Attr → List ℕ
all_bytes [] = []
all_bytes (a ∷ xs) = bytes_of a ++ all_bytes xs
