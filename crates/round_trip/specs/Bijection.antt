-- THE ROUND TRIP: messages within the rules and datagrams within the rules are in bijection, by `bytes_of` and `message_of`.
use Rattle.std.specs.Prelude.{ℕ, ◌+◌, ◌*◌, ◌/◌, ◌%◌, ◌<◌, ◌≡◌, refl, length, take, drop}
use mathlib.Core.List.{List, [], ◌∷◌, ◌++◌}
use Rattle.std.proofs.Common.{sym, ◌∙◌, subst, length-append, length-take, length-drop, take-append-drop, drop-drop}
use Rattle.std.proofs.Math.Path.{ap, ap₂}
use native.Mathlib.Omega.{arith}
use Rattle.std.proofs.Math.Seq.{take_at}
use Rattle.base.specs.BytesLaws.{take-bytes, drop-bytes, append_bytes, byte_at}
use Rattle.base.specs.Bytes.{Bytes}
use Rattle.base.specs.SameLaws.{same_eq}
use Rattle.big_endian.specs.Numbers.{be16}
use Rattle.cookie.specs.Cookie.{cookie, cookie_at}
use Rattle.wire.specs.TypeNumber.{type_of, class_of, method_of, class_number, class_numbered}
use Rattle.wire.specs.TypeLaws.{class_back, method_back, type_below, class_below, method_below, number_forth, class_numbered_lem, class_number_lem, class_small}
use Rattle.wire.specs.declared.types.MessageClass.{MessageClass}
use Rattle.header.specs.Header.{header_fault, id_of}
use Rattle.header.specs.HeaderLaws.{Checked, checked, unrefused}
use Rattle.attribute.specs.Attribute.{padded, Attr, attrs, rest, parse, all_bytes}
use Rattle.attribute.specs.Good.{Goods}
use Rattle.attribute.proofs.RoundTripLaws.{goods_read, decode_all_bytes, all_bytes-decode}
use Rattle.write_begin.specs.Begin.{head_bytes}
use Rattle.round_trip.specs.Message.{Message, bytes_of, message_of, Octets, Shaped, Writable, Sound}
use Rattle.round_trip.specs.FrontLaws.{head_length, head_size, head_type, head_fault, head_body}

-- bytes of two lists, taken apart
left : (s t : List ℕ) → Bytes (s ++ t) → Bytes s
left [] t h = tt
left (b ∷ s) t h = (h.0, left s t h.1)

right : (s t : List ℕ) → Bytes (s ++ t) → Bytes t
right [] t h = h
right (b ∷ s) t h = right s t h.1

-- the bytes of attributes are bytes, and attributes whose bytes are bytes have such
all_octets : (xs : List Attr) → Goods xs → Octets xs → Bytes (all_bytes xs)
all_octets [] g o = tt
all_octets (a ∷ xs) g o =
    let r : Bytes (a.value ++ a.pad ++ all_bytes xs) =
    append_bytes (a.value ++ a.pad) (all_bytes xs) (append_bytes a.value a.pad o.0 o.1) (all_octets xs g.1 o.2)
    in
    (omega (arith, g.0.kind_fits), (omega arith, (omega (arith, g.0.size_fits), (omega arith, r))))

octets_all : (xs : List Attr) → Bytes (all_bytes xs) → Octets xs
octets_all [] h = tt
octets_all (a ∷ xs) h =
    let b : Bytes (a.value ++ a.pad ++ all_bytes xs) = h.1.1.1.1 in
    let c : Bytes (a.value ++ a.pad) = left (a.value ++ a.pad) (all_bytes xs) b in
    (left a.value a.pad c, right a.value a.pad c, octets_all xs (right (a.value ++ a.pad) (all_bytes xs) b))

-- attributes fill whole groups of four bytes
fours : (xs : List Attr) → Goods xs → length (all_bytes xs) % 4 ≡ 0
fours [] g = refl
fours (a ∷ xs) g =
    let p : length a.value + length a.pad ≡ padded (length a.value) = g.0.padding in
    let q : length (all_bytes xs) % 4 ≡ 0 = fours xs g.1 in
    simp length-append (omega arith)

make : MessageClass → ℕ → List ℕ → List Attr → Message
make c k i xs = record { class = c; method = record { code = k }; id = record { bytes = i }; attributes = xs }

-- a message written, and read
module _ (m : Message) (w : Shaped m) where
  abbrev t : ℕ
  t = type_of (class_number m.class) m.method.code

  abbrev n : ℕ
  n = length (all_bytes m.attributes)

  t_small : t < 16384
  t_small = type_below (class_number m.class) m.method.code (class_small m.class) w.method

  pub t_again : be16 (bytes_of m) 0 ≡ t
  unfolding bytes_of
  t_again = head_type t n m.id.bytes (all_bytes m.attributes) w.id

  n_again : be16 (bytes_of m) 2 ≡ n
  unfolding bytes_of
  n_again = head_size t n m.id.bytes (all_bytes m.attributes) w.id (omega (arith, w.body))

  pub body_again : drop 20 (bytes_of m) ≡ all_bytes m.attributes
  unfolding bytes_of
  body_again = head_body t n m.id.bytes (all_bytes m.attributes) w.id

  id_again : id_of (bytes_of m) ≡ m.id.bytes
  unfolding bytes_of id_of head_bytes
  id_again = take_at m.id.bytes (all_bytes m.attributes) 12 w.id

  pub read_written : message_of (bytes_of m) ≡ m
  unfolding message_of make
  read_written =
      let c : class_numbered (class_of (be16 (bytes_of m) 0)) ≡ m.class =
      ap (λ (x : ℕ). class_numbered (class_of x)) t_again ∙ ap class_numbered (class_back (class_number m.class) m.method.code (class_small m.class)) ∙ class_numbered_lem m.class
      in
      let k : method_of (be16 (bytes_of m) 0) ≡ m.method.code = ap method_of t_again ∙ method_back (class_number m.class) m.method.code (class_small m.class) in
      let a : attrs (parse 0 (drop 20 (bytes_of m))) ≡ m.attributes = ap (λ (s : List ℕ). attrs (parse 0 s)) body_again ∙ (decode_all_bytes m.attributes w.attributes).0 in
      ap₂ (λ (x : MessageClass) (y : ℕ). make x y (id_of (bytes_of m)) (attrs (parse 0 (drop 20 (bytes_of m))))) c k
      ∙ ap₂ (λ (x : List ℕ) (y : List Attr). make m.class m.method.code x y) id_again a

  size_again : length (bytes_of m) ≡ 20 + be16 (bytes_of m) 2
  unfolding bytes_of
  size_again = simp (length-append, head_length t n m.id.bytes [] w.id) (ap (λ (x : ℕ). 20 + x) (sym n_again))

  pub header_again : header_fault (bytes_of m) ≡ 0
  unfolding bytes_of
  header_again = unrefused (bytes_of m) (head_fault t n m.id.bytes (all_bytes m.attributes) w.id t_small) size_again

  pub covered_again : rest (parse 0 (drop 20 (bytes_of m))) ≡ []
  covered_again = ap (λ (s : List ℕ). rest (parse 0 s)) body_again ∙ (decode_all_bytes m.attributes w.attributes).1

module _ (m : Message) (w : Writable m) where
  behind : Bytes (m.id.bytes ++ all_bytes m.attributes)
  behind = append_bytes m.id.bytes (all_bytes m.attributes) w.id_octets (all_octets m.attributes w.shape.attributes w.octets)

  pub sound : Sound (bytes_of m)
  unfolding bytes_of head_bytes
  sound = record {
    octets =
        (omega (arith, t_small m w.shape), (omega arith, (omega (arith, w.shape.body), (omega arith, (omega arith, (omega arith, (omega arith, (omega arith, behind))))))));
    header = header_again m w.shape;
    covered = covered_again m w.shape;
  }

-- the header of a datagram, from what it says
head_again : (d : List ℕ) → Bytes d → Checked d → head_bytes (be16 d 0) (be16 d 2) (id_of d) ++ drop 20 d ≡ d
unfolding head_bytes be16 id_of cookie_at
head_again [] h c = absurd (omega (arith, c.long))
head_again (a ∷ []) h c = absurd (omega (arith, c.long))
head_again (a ∷ b ∷ []) h c = absurd (omega (arith, c.long))
head_again (a ∷ b ∷ e ∷ []) h c = absurd (omega (arith, c.long))
head_again (a ∷ b ∷ e ∷ f ∷ r) h c =
    let hb : b < 256 = h.1.0 in
    let hf : f < 256 = h.1.1.1.0 in
    let i : (a * 256 + b) / 256 ≡ a = omega arith in
    let j : (a * 256 + b) % 256 ≡ b = omega arith in
    let k : (e * 256 + f) / 256 ≡ e = omega arith in
    let l : (e * 256 + f) % 256 ≡ f = omega arith in
    let q : take 4 r ≡ cookie = same_eq (take 4 r) cookie c.magic in
    let y : cookie ++ (take 12 (drop 4 r) ++ drop 16 r) ≡ r =
    ap (λ (x : List ℕ). x ++ (take 12 (drop 4 r) ++ drop 16 r)) (sym q)
    ∙ ap (λ (x : List ℕ). take 4 r ++ (take 12 (drop 4 r) ++ x)) (sym (drop-drop 12 4 r))
    ∙ ap (λ (x : List ℕ). take 4 r ++ x) (take-append-drop 12 (drop 4 r)) ∙ take-append-drop 4 r
    in
    rw (i, j, k, l) (ap (λ (x : List ℕ). a ∷ b ∷ e ∷ f ∷ x) y)

-- a datagram read, and written
module _ (d : List ℕ) (s : Sound d) where
  ok : Checked d
  ok = checked d s.header

  all_again : all_bytes (attrs (parse 0 (drop 20 d))) ≡ drop 20 d
  all_again = all_bytes-decode (drop 20 d) (drop-bytes 20 d s.octets) s.covered

  good : Goods (attrs (parse 0 (drop 20 d)))
  good = goods_read 0 (drop 20 d) (drop-bytes 20 d s.octets)

  long : length (all_bytes (attrs (parse 0 (drop 20 d)))) ≡ be16 d 2
  long = ap length all_again ∙ simp length-drop (omega (arith, ok.size))

  size_small : be16 d 2 < 65536
  unfolding be16
  size_small = omega (arith, byte_at d 2 s.octets, byte_at d (2 + 1) s.octets)

  type_again : type_of (class_number (class_numbered (class_of (be16 d 0)))) (method_of (be16 d 0)) ≡ be16 d 0
  type_again =
      ap (λ (x : ℕ). type_of x (method_of (be16 d 0))) (class_number_lem (class_of (be16 d 0)) (class_below (be16 d 0) ok.top))
      ∙ number_forth (be16 d 0) ok.top

  pub writable : Writable (message_of d)
  unfolding message_of id_of
  writable = record {
    shape =
        record {
          method = method_below (be16 d 0) ok.top;
          id = simp (length-take, length-drop) (omega (arith, ok.long));
          attributes = good;
          body = omega (arith, long, size_small, fours (attrs (parse 0 (drop 20 d))) good);
        };
    id_octets = take-bytes 12 (drop 8 d) (drop-bytes 8 d s.octets);
    octets = octets_all (attrs (parse 0 (drop 20 d))) (subst (λ (x : List ℕ). Bytes x) (sym all_again) (drop-bytes 20 d s.octets));
  }

  pub written_read : bytes_of (message_of d) ≡ d
  unfolding bytes_of message_of
  written_read = rw (type_again, long, all_again) (head_again d s.octets ok)

-- stated once; the rest cites it
pub bijection : ((m : Message) → Writable m → Sound (bytes_of m) × (message_of (bytes_of m) ≡ m))
    × ((d : List ℕ) → Sound d → Writable (message_of d) × (bytes_of (message_of d) ≡ d))
bijection = (λ m w. (sound m w, read_written m w.shape), λ d s. (writable d s, written_read d s))
