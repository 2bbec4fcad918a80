-- HMAC over SHA-1, as RFC 2104 section 2 defines it.
use Rattle.std.specs.Prelude.{ℕ, List, ◌++◌, map, length, leb}
use Rattle.std.specs.Int.Bits.{bit_xor}
use Rattle.base.specs.Choice.{pick}
use Rattle.hash_block.specs.Block.{block_of}
use Rattle.sha1_digest.specs.Sha1.{sha1}

-- the key as one block: its hash where it is longer than that, with zeros behind it
unfoldable pub key_block : List ℕ → List ℕ
key_block k = block_of (pick (leb (length k) 64) k (sha1 k))

-- each byte of k xored with x
unfoldable pub xored : List ℕ → ℕ → List ℕ
xored k x = map (λ b. bit_xor b x) k

unfoldable pub hmac_of : List ℕ → List ℕ → List ℕ
hmac_of k m = sha1 (xored (key_block k) 0x5c ++ sha1 (xored (key_block k) 0x36 ++ m))
