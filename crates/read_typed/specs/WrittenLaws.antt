-- An address as the bytes of a value (RFC 5389 sections 15.1 and 15.2), which typed reading gives back: plain and in XOR form, for
-- either family.
use Rattle.std.specs.Prelude.{ℕ, zero, suc, ◌+◌, ◌*◌, ◌/◌, ◌%◌, ◌≤◌, ◌≡◌, refl, take, replicate, Some, Ok}
use mathlib.Core.List.{List, [], ◌∷◌, ◌++◌}
use Rattle.std.proofs.Common.{sym, ◌∙◌, le-leb, length-take}
use Rattle.std.proofs.Math.Path.{ap}
use native.Mathlib.Omega.{arith}
use Rattle.std.proofs.Math.ListN.{length, drop, take-append-drop}
use Rattle.base.specs.LaidLaws.{laid_is}
use Rattle.big_endian.specs.Numbers.{be16}
use Rattle.buffers.specs.Put.{fits_at, put}
use Rattle.cookie.specs.Cookie.{cookie}
use Rattle.wire.specs.declared.transaction_id.TransactionId.{TransactionId}
use Rattle.net.specs.Net.{family_number, ip_size, xored, addr_xor, address_value, Sound}
use Rattle.net.specs.NetLaws.{length-xored, addr_twice}
use Rattle.net.specs.declared.Family.{Family}
use Rattle.net.specs.declared.Family.TheVariants.{Ipv4, Ipv6}
use Rattle.net.specs.declared.SocketAddr.{SocketAddr}
use Rattle.registry.specs.Rows.{row, look, rule_in}
use Rattle.registry.specs.Fault.{fault}
use Rattle.registry.specs.AddressLaws.{ip_small, ip_length, address_right, xor_address_right}
use Rattle.registry.specs.declared.Rule.TheVariants.{Address, XorAddress}
use Rattle.registry.specs.declared.Row.{Row}
use Rattle.read_typed.specs.Typed.{family_numbered, ip_of, address_of, read_of, typed_of}
use Rattle.read_typed.specs.declared.Value.TheVariants.{Address as Says}
use Rattle.read_typed.specs.TypedLaws.{fields}

same_family : (f : Family) → family_numbered (family_number f) ≡ f
same_family Ipv4 = refl
same_family Ipv6 = refl

abbrev noughts : List ℕ
noughts = replicate 16 0

module _ (a : SocketAddr) (s : Sound a) where
  abbrev ip_bytes : List ℕ
  ip_bytes = take (ip_size a.family) a.ip

  same_ip : put noughts 0 ip_bytes ≡ a.ip
  unfolding put fits_at
  same_ip =
      let n : 0 + length ip_bytes ≡ ip_size a.family = omega (arith, ip_length a s.size) in
      let r : 0 + length ip_bytes ≤ length noughts = omega (arith, ip_small a.family) in
      simp (le-leb (0 + length ip_bytes) (length noughts) r)
      (laid_is noughts 0 ip_bytes r ∙ ap (λ (m : ℕ). ip_bytes ++ drop m noughts) n
      ∙ ap (λ (t : List ℕ). ip_bytes ++ t) (sym s.behind) ∙ take-append-drop (ip_size a.family) a.ip)

  -- over the size of the IP
  pub address_back : address_of (address_value a) ≡ a
  unfolding address_of address_value ip_of be16
  address_back =
      let p : a.port / 256 * 256 + a.port % 256 ≡ a.port = omega arith in
      rw (same_family a.family, p, same_ip)

-- bytes behind the mask stay
xored_rest : (s k : List ℕ) (n : ℕ) → length k ≤ n → drop n (xored s k) ≡ drop n s
unfolding xored
xored_rest [] k n h = refl
xored_rest (b ∷ s) [] n h = refl
xored_rest (b ∷ s) (c ∷ k) zero h = absurd (omega arith)
xored_rest (b ∷ s) (c ∷ k) (suc n) h = xored_rest s k n (omega arith)

xor_sound : (a : SocketAddr) (id : TransactionId) → Sound a → Sound (addr_xor a id)
unfolding addr_xor
xor_sound a id s = record {
  size = length-xored a.ip (take (ip_size a.family) (cookie ++ id.bytes)) ∙ s.size;
  behind =
      xored_rest a.ip (take (ip_size a.family) (cookie ++ id.bytes)) (ip_size a.family) (simp length-take (omega arith)) ∙ s.behind;
}

-- written in the form of its rule, an address is read as it was: over the list of types and the kind
module _ (rows : List Row) (k : ℕ) (a : SocketAddr) (id : TransactionId) (s : Sound a) where
  pub plain_back : look rows k ≡ Some (row k 8 20 Address) → typed_of rows k (address_value a) id ≡ Ok (Says a)
  unfolding fault rule_in read_of
  plain_back e =
      let z : fault rows k (address_value a) ≡ 0 = rw e (address_right k a s.size) in
      fields rows k (address_value a) z id ∙ rw (e, address_back a s)

  pub xor_back : look rows k ≡ Some (row k 8 20 XorAddress) → typed_of rows k (address_value (addr_xor a id)) id ≡ Ok (Says a)
  unfolding fault rule_in read_of
  xor_back e =
      let t : Sound (addr_xor a id) = xor_sound a id s in
      let z : fault rows k (address_value (addr_xor a id)) ≡ 0 = rw e (xor_address_right k (addr_xor a id) t.size) in
      fields rows k (address_value (addr_xor a id)) z id ∙ rw (e, address_back (addr_xor a id) t, addr_twice a id)
