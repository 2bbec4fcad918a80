-- Laws of the XOR form: over any size, and its own inverse.
use Rattle.std.specs.Prelude.{ℕ, zero, suc, ◌≤◌, List, [], ◌∷◌, ◌++◌, ◌≡◌, refl, length, take, drop}
use Rattle.std.proofs.Common.{ap, ap₂, arith}
use Rattle.std.specs.Int.Bits.{bit_xor}
use Rattle.base.specs.XorLaws.{xor_twice}
use Rattle.cookie.specs.Cookie.{cookie}
use Rattle.net.specs.Net.{ip_size, xored, addr_xor}
use Rattle.net.specs.declared.SocketAddr.{SocketAddr}
use Rattle.wire.specs.declared.transaction_id.TransactionId.{TransactionId}

pub length-xored : (s k : List ℕ) → length (xored s k) ≡ length s
unfolding xored
length-xored [] k = refl
length-xored (a ∷ s) [] = refl
length-xored (a ∷ s) (b ∷ k) = ap suc (length-xored s k)

pub xored_nil : (s : List ℕ) → xored s [] ≡ s
unfolding xored
xored_nil [] = refl
xored_nil (a ∷ s) = refl

-- a mask counts only as far as there are bytes
pub xored_behind : (s k : List ℕ) (i : ℕ) → length s ≤ i → xored s (take i k) ≡ xored s k
unfolding xored
xored_behind [] k i h = refl
xored_behind (a ∷ s) k zero h = absurd (omega arith)
xored_behind (a ∷ s) [] (suc i) h = refl
xored_behind (a ∷ s) (b ∷ k) (suc i) h = ap (λ (r : List ℕ). bit_xor a b ∷ r) (xored_behind s k i (omega arith))

-- one mask, and then another behind it
pub xored-append : (s k l : List ℕ) → take (length k) (xored s k) ++ xored (drop (length k) (xored s k)) l ≡ xored s (k ++ l)
unfolding xored
xored-append [] k l = empty (length k)
  where
    empty : (n : ℕ) → take n [] ++ xored (drop n []) l ≡ []
    empty zero = refl
    empty (suc n) = refl
xored-append (a ∷ s) [] l = refl
xored-append (a ∷ s) (b ∷ k) l = ap (λ (r : List ℕ). bit_xor a b ∷ r) (xored-append s k l)

-- a mask xored twice is gone
pub xored_twice : (s k : List ℕ) → xored (xored s k) k ≡ s
unfolding xored
xored_twice [] k = refl
xored_twice (a ∷ s) [] = refl
xored_twice (a ∷ s) (b ∷ k) = ap₂ {C = List ℕ} (λ x r. x ∷ r) (xor_twice a b) (xored_twice s k)

-- of an XOR form the XOR form is the address
pub addr_twice : (a : SocketAddr) (id : TransactionId) → addr_xor (addr_xor a id) id ≡ a
unfolding addr_xor
addr_twice a id =
    ap₂ (λ (p : ℕ) (i : List ℕ). record { family = a.family; port = p; ip = i })
    (xor_twice a.port 0x2112)
    (xored_twice a.ip (take (ip_size a.family) (cookie ++ id.bytes)))
