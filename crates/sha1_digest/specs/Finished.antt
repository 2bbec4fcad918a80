-- The end of SHA-1 as FIPS 180-4 defines it, of a message that is a list of bytes.
use Rattle.std.specs.Prelude.{ℕ, ◌-◌, ◌*◌, ◌/◌, ◌%◌, ◌^◌, List, [], ◌∷◌, ◌++◌, replicate}
use Rattle.sha1_digest.specs.declared.compression.State.{State}
use Rattle.sha1_digest.specs.Compression.{run}

-- a word's four bytes, and eight bytes for the number of bits of n bytes, modulo 2 ^ 64
abbrev pub bytes4 : ℕ → List ℕ → List ℕ
bytes4 x rest = x / 16777216 % 256 ∷ x / 65536 % 256 ∷ x / 256 % 256 ∷ x % 256 ∷ rest

unfoldable pub count_of : ℕ → List ℕ
count_of n = let bits = n * 8 % 2 ^ 64 in bytes4 (bits / 2 ^ 32) (bytes4 bits [])

-- §5.1.1: what follows a message of n bytes: a one bit, zeros up to 8 bytes before a block's end, the number of bits
unfoldable pub padding : ℕ → List ℕ
padding n = 128 ∷ replicate ((119 - n % 64) % 64) 0 ++ count_of n

abbrev pub digest : State → List ℕ
digest h = bytes4 h.a (bytes4 h.b (bytes4 h.c (bytes4 h.d (bytes4 h.e []))))

-- the digest of a message of n bytes, of which s are those that the hash value h has not taken in
unfoldable pub finished : State → ℕ → List ℕ → List ℕ
finished h n s = digest (run (s ++ padding n) h)
