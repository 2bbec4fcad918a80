-- A block in front of what is left of a message, for callers.
use Rattle.std.specs.Prelude.{◌≡◌, ℕ, List, ◌++◌, length}
use Rattle.std.proofs.Common.{ap, ◌∙◌, append_assoc}
use Rattle.sha1_digest.specs.declared.compression.State.{State}
use Rattle.sha1_digest.specs.Compression.{compress, run}
use Rattle.sha1_digest.specs.CompressionLaws.{run_block}
use Rattle.sha1_digest.specs.Finished.{padding, digest, finished}

-- a whole block in front of the rest of a message
pub finished_block : (b s : List ℕ) (n : ℕ) (h : State) → length b ≡ 64 → finished h n (b ++ s) ≡ finished (compress b h) n s
unfolding finished
finished_block b s n h e = ap (λ (p : List ℕ). digest (run p h)) (append_assoc b s (padding n)) ∙ ap digest (run_block b (s ++ padding n) h e)
