-- Demand 2: whole datagrams written again are the same bytes, and messages written are read back as they were.
use Rattle.std.specs.Prelude.{ℕ, ◌≤◌, List, ◌≡◌, length, take}
use Rattle.std.proofs.Common.{sym, ap, ◌∙◌, subst}
use Rattle.base.specs.Bytes.{Bytes}
use Rattle.wire.specs.declared.method.Method.{Method}
use Rattle.wire.specs.declared.types.MessageClass.{MessageClass}
use Rattle.attribute.specs.Attribute.{Attr}
use Rattle.attribute.specs.Scan.{Pass}
use Rattle.registry.specs.declared.Row.{Row}
use Rattle.read_fingerprints.specs.Fingerprints.{print_faults}
use Rattle.read_message.specs.Reading.{value_faults, reading_of, answer_of}
use Rattle.read_message.specs.Whole.{attributes}
use Rattle.read_message.proofs.WholeLaws.{Parts, parts, parts_told, told_whole}
use Rattle.read_message.specs.Reading.{Whole}
use Rattle.round_trip.specs.Message.{Message, bytes_of, message_of, Shaped, Writable, Sound, write, Right, whole_with}
use Rattle.round_trip.specs.Bijection.{bijection, read_written, header_again, covered_again}
use Rattle.round_trip.specs.WriteAgain.{front_written}

module _ (rows : List Row) (d : List ℕ) {c : MessageClass} {m : Method} {n : ℕ} (h : Bytes d) (e : answer_of (reading_of rows d) ≡ Whole c m n) where
  -- a whole datagram is within the rules
  pub whole_sound : Sound d
  whole_sound = let p : Parts rows d = parts rows d (told_whole rows d e) in record { octets = h; header = p.header; covered = p.covered }

  -- WRITTEN AGAIN: in any buffer with room for it, a whole datagram is the same bytes
  pub written_again : (b : List ℕ) → length d ≤ length b → take (length d) (write b (message_of d)) ≡ d
  written_again b room =
      let w : Writable (message_of d) × (bytes_of (message_of d) ≡ d) = bijection.1 d whole_sound in
      let r : length (bytes_of (message_of d)) ≤ length b = rw w.1 room in
      ap (λ (x : List ℕ). take (length x) (write b (message_of d))) (sym w.1) ∙ front_written b (message_of d) w.0.shape r ∙ w.1

-- MESSAGE BACK: a message within the rules, written into a buffer with room for it, is that message again
pub message_back : (b : List ℕ) (m : Message) → Shaped m → length (bytes_of m) ≤ length b → message_of (take (length (bytes_of m)) (write b m)) ≡ m
message_back b m w room = ap message_of (front_written b m w room) ∙ read_written m w

pub right_read : (rows : List Row) (m : Message) → Right rows m → reading_of rows (bytes_of m) ≡ whole_with m
unfolding message_of
right_read rows m r =
    let e : message_of (bytes_of m) ≡ m = read_written m r.shape in
    let a : attributes (bytes_of m) ≡ m.attributes = ap (λ (x : Message). x.attributes) e in
    parts_told rows (bytes_of m)
    (record {
      header = header_again m r.shape;
      covered = covered_again m r.shape;
      values = subst (λ (xs : List Attr). Pass (value_faults rows) 20 xs) (sym a) r.values;
      prints = subst (λ (xs : List Attr). Pass (print_faults (bytes_of m)) 20 xs) (sym a) r.prints;
    })
    ∙ ap (λ (x : Message). whole_with x) e

-- READ BACK: written into a buffer with room for it, it is read so
pub read_back : (rows : List Row) (b : List ℕ) (m : Message) → Right rows m → length (bytes_of m) ≤ length b
    → reading_of rows (take (length (bytes_of m)) (write b m)) ≡ whole_with m
read_back rows b m r room = ap (reading_of rows) (front_written b m r.shape room) ∙ right_read rows m r
