-- The register carried from FINGERPRINT to FINGERPRINT: what the functions of the run return.
use Rattle.std.specs.Int.{from_le_bytes, swap_bytes}
use Rattle.std.proofs.Common.{ℕ, ◌+◌, ◌-◌, ◌*◌, ◌^◌, ◌≤◌, ◌<◌, List, [], ◌∷◌, ◌++◌, append-nil, ◌≡◌, refl, sym, ap, ap₂, ◌∙◌, subst, arith, length, get_or, take, drop, length-take, length-drop, bit_xor, ◌/◌, ◌%◌, w16, w32}
use Rattle.std.proofs.lemmas.Nat.{xor_lt}
use Rattle.big_endian.specs.Numbers.{with_length}
use Rattle.big_endian.specs.NumbersLaws.{four_at}
use Rattle.crc.specs.Crc.{bit_step, bit_steps, bytes_from, finished}
use Rattle.crc.specs.Octets.{octets, word, times}
use Rattle.crc.proofs.CrcLaws.{bytes_from-append, octets_add, octets_xor, octets_lt, at_once, apart, low_byte}
use Rattle.crc_byte_tables.specs.Tables.{Steps, four_by, eight_by}
use Rattle.fingerprint.specs.Fingerprint.{printed}
use Rattle.fingerprint.specs.FingerprintLaws.{owes_sum}
use Rattle.fingerprint.specs.Register.{register, field}
use Rattle.fingerprint.specs.RegisterLaws.{parts, register_on, register_other, print_of}
use Rattle.read_fingerprints.specs.Running.{running_at, relength_of, Ran}
use Rattle.read_fingerprints.specs.declared.Running.{Running}

-- field by field
run : {u v m n s t x y : ℕ} → u ≡ v → m ≡ n → s ≡ t → x ≡ y
    → ◌≡◌ {A = Running} (record { upto = u; length = m; sum = s; power = x }) (record { upto = v; length = n; sum = t; power = y })
run e f g h = cc

four_noughts : 0xEDB8_8320 ≡ octets 4 0x8000_0000
unfolding octets bit_steps bit_step
four_noughts = refl

module _ (d : List ℕ) where
  -- nothing is summed before it is asked for
  pub unbegun : {p : ℕ} → Ran d (record { upto = 0; length = 0; sum = 0xFFFF_FFFF; power = 0x8000_0000 }) p
  unfolding running_at register with_length bytes_from octets bit_steps
  unbegun = record { right = refl; behind = omega arith; short = omega arith }

  pub begun_is : {a s : ℕ} → 4 ≤ length d → a ≡ bytes_from 0xFFFF_FFFF (take 2 d) → s ≡ bytes_from a (0 ∷ 0 ∷ [])
      → record { upto = 4; length = 0; sum = s; power = 0xEDB8_8320 } ≡ running_at d 4 0
  unfolding running_at register
  begun_is {a} {s} l e f =
      run refl refl
      (f ∙ ap (λ (x : ℕ). bytes_from x (0 ∷ 0 ∷ [])) e ∙ sym (bytes_from-append 0xFFFF_FFFF (take 2 d) (0 ∷ 0 ∷ []))
      ∙ ap (bytes_from 0xFFFF_FFFF) (sym (append-nil (take 2 d ++ (0 ∷ 0 ∷ []))) ∙ sym (parts d 4 0 (omega arith) l)))
      four_noughts

  pub begun_ran : {r : Running} {p : ℕ} → 20 ≤ p → r ≡ running_at d 4 0 → Ran d r p
  unfolding running_at
  begun_ran {r} {p} h e = subst (λ (x : Running). Ran d x p) (sym e) (record { right = refl; behind = omega arith; short = omega arith })

  pub begun_far : {r : Running} → r ≡ running_at d 4 0 → 4 ≤ r.upto
  unfolding running_at
  begun_far e = omega (arith, ap (λ (x : Running). x.upto) e)

  pub carried_is : (r : Running) {p x y : ℕ} → Ran d r p → 4 ≤ r.upto → p ≤ length d
      → x ≡ bytes_from r.sum (take (p - r.upto) (drop r.upto d))
      → y ≡ bytes_from (bit_xor r.sum r.power) (take (p - r.upto) (drop r.upto d))
      → record { upto = p; length = r.length; sum = x; power = bit_xor y x } ≡ running_at d p r.length
  unfolding running_at
  carried_is r {p} {x} {y} g h l e f =
      run refl refl (e ∙ ap (λ (z : ℕ). bytes_from z s) sums ∙ register_on d u p r.length h g.behind l)
      (ap₂ bit_xor f e ∙ apart r.sum r.power s ∙ ap₂ octets long powers ∙ sym (octets_add u (p - u) 0x8000_0000)
      ∙ ap (λ (k : ℕ). octets k 0x8000_0000) (omega (arith, g.behind)))
    where
      u : ℕ
      u = r.upto

      s : List ℕ
      s = take (p - u) (drop u d)

      sums : r.sum ≡ register d u r.length
      sums = ap (λ (z : Running). z.sum) g.right

      powers : r.power ≡ octets u 0x8000_0000
      powers = ap (λ (z : Running). z.power) g.right

      long : length s ≡ p - u
      long = simp (length-take, length-drop) (omega (arith, g.behind))

-- what is carried as far as p has gone so far
module _ (d : List ℕ) (p n : ℕ) {r : Running} (e : r ≡ running_at d p n) where
  pub arrived : n < 65536 → Ran d r p
  unfolding running_at
  arrived h = subst (λ (x : Running). Ran d x p) (sym e) (record { right = refl; behind = omega arith; short = h })

  pub there : p ≤ r.upto
  unfolding running_at
  there = omega (arith, ap (λ (x : Running). x.upto) e)

-- ---- by a lent table, four bytes a turn

word_four : (a b c e : ℕ) → a < 256 → b < 256 → c < 256 → e < 256 → a + b * 256 + c * 65536 + e * 16777216 ≡ word (a ∷ b ∷ c ∷ e ∷ [])
unfolding word
word_four a b c e h i j k =
    let x : bit_xor e (0 * 2 ^ 8) ≡ e = low_byte e 0 k ∙ omega arith in
    let y : bit_xor c (bit_xor e (0 * 2 ^ 8) * 2 ^ 8) ≡ e * 256 + c = ap (λ (z : ℕ). bit_xor c (z * 2 ^ 8)) x ∙ low_byte c e j in
    let w : bit_xor b (bit_xor c (bit_xor e (0 * 2 ^ 8) * 2 ^ 8) * 2 ^ 8) ≡ (e * 256 + c) * 256 + b =
    ap (λ (z : ℕ). bit_xor b (z * 2 ^ 8)) y ∙ low_byte b (e * 256 + c) i
    in
    let v : a + b * 256 + c * 65536 + e * 16777216 ≡ ((e * 256 + c) * 256 + b) * 256 + a = omega arith in
    v ∙ sym (ap (λ (z : ℕ). bit_xor a (z * 2 ^ 8)) w ∙ low_byte a ((e * 256 + c) * 256 + b) h)

module _ (d : List ℕ) where
  -- the four bytes at a place as a number
  pub word_is : (p : ℕ) {w : ℕ} → p + 4 ≤ length d → ((i : ℕ) → get_or d i 0 < 256)
      → w ≡ from_le_bytes w32 (get_or d p 0 ∷ get_or d (p + 1) 0 ∷ get_or d (p + 2) 0 ∷ get_or d (p + 3) 0 ∷ []) → w ≡ word (take 4 (drop p d))
  word_is p l h e =
      let k : p + 2 + 1 ≡ p + 3 = omega arith in
      let s : drop p d ≡ get_or d p 0 ∷ get_or d (p + 1) 0 ∷ get_or d (p + 2) 0 ∷ get_or d (p + 3) 0 ∷ drop (p + 4) d =
      four_at d p l ∙ ap (λ (j : ℕ). get_or d p 0 ∷ get_or d (p + 1) 0 ∷ get_or d (p + 2) 0 ∷ get_or d j 0 ∷ drop (p + 4) d) k in
      e ∙ word_four (get_or d p 0) (get_or d (p + 1) 0) (get_or d (p + 2) 0) (get_or d (p + 3) 0) (h p) (h (p + 1)) (h (p + 2)) (h (p + 3))
      ∙ sym (ap (λ (t : List ℕ). word (take 4 t)) s)

  pub record Worded (n p at sum power : ℕ) : Type 0 where
    pub sums : sum ≡ register d at n
    pub powers : power ≡ octets at 0x8000_0000
    pub low : 4 ≤ at
    pub inside : at ≤ p
    pub small : sum < 2 ^ 32
    pub short : n < 65536

  pub worded_start : (r : Running) {p : ℕ} → Ran d r p → 4 ≤ r.upto → r.sum < 2 ^ 32 → Worded r.length p r.upto r.sum r.power
  unfolding running_at
  worded_start r g h i = record {
    sums = ap (λ (x : Running). x.sum) g.right;
    powers = ap (λ (x : Running). x.power) g.right;
    low = h;
    inside = g.behind;
    small = i;
    short = g.short;
  }

  worded_next : {n p at sum power w x y : ℕ} → p ≤ length d → Worded n p at sum power → 4 ≤ p - at → w < 2 ^ 32 → w ≡ word (take 4 (drop at d))
      → x ≡ octets 4 (bit_xor sum w) → y ≡ octets 4 power
      → Worded n p (at + 4) x y
  worded_next {n} {p} {at} {sum} {power} {w} {x} {y} k g m j e f q = record {
    sums =
        f ∙ ap₂ octets (sym long) (ap₂ bit_xor g.sums e)
        ∙ sym (at_once (register d at n) (take 4 (drop at d)))
        ∙ ap (λ (z : ℕ). bytes_from (register d at n) (take z (drop at d))) size
        ∙ register_on d at (at + 4) n g.low (omega arith) (omega arith);
    powers = q ∙ ap (octets 4) g.powers ∙ sym (octets_add at 4 0x8000_0000);
    low = omega (arith, g.low);
    inside = omega arith;
    small = rw f (octets_lt 4 (bit_xor sum w) (xor_lt 32 sum w g.small j));
    short = g.short;
  }
    where
      size : 4 ≡ at + 4 - at
      size = omega arith

      long : length (take 4 (drop at d)) ≡ 4
      long = simp (length-take, length-drop) (omega arith)

  pub worded_turn : (t : List ℕ) {n p at sum power w x y : ℕ} → Steps t → 128 ≤ length t → p ≤ length d → Worded n p at sum power → 4 ≤ p - at
      → w < 2 ^ 32 → w ≡ word (take 4 (drop at d)) → x ≡ four_by t (bit_xor sum w) → y ≡ four_by t power
      → Worded n p (at + 4) x y
  worded_turn t {n} {p} {at} {sum} {power} {w} {x} {y} h l k g m j e f q =
      worded_next k g m j e (f ∙ h.four (bit_xor sum w) (xor_lt 32 sum w g.small j) l)
      (q ∙ ap (four_by t) g.powers ∙ h.four (octets at 0x8000_0000) (octets_lt at 0x8000_0000 (omega arith)) l ∙ ap (octets 4) (sym g.powers))

  pub worded_done : {n p at sum power : ℕ} → Worded n p at sum power
      → Ran d (record { upto = at; length = n; sum = sum; power = power }) p × (4 ≤ at)
  unfolding running_at
  worded_done g = (record { right = run refl refl g.sums g.powers; behind = g.inside; short = g.short }, g.low)

  -- two turns: what is eight bytes further on
  pub two_words_are : (t : List ℕ) (r : Running) {p v w a b x y : ℕ} → Ran d r p → x ≡ four_by t (bit_xor a w) → a ≡ four_by t (bit_xor r.sum v) → y ≡ four_by t b
      → b ≡ four_by t r.power → v ≡ word (take 4 (drop r.upto d)) → w ≡ word (take 4 (drop (r.upto + 4) d))
      → Steps t → 128 ≤ length t → 4 ≤ r.upto → r.upto + 8 ≡ p → p ≤ length d → r.sum < 2 ^ 32 → v < 2 ^ 32 → w < 2 ^ 32
      → Ran d (record { upto = p; length = r.length; sum = x; power = y }) p
  two_words_are t r {p} {v} {w} {a} {b} {x} {y} g z f o s q u h l k e m i j n =
      let one : Worded r.length p (r.upto + 4) a b = worded_turn t h l m (worded_start r g k i) (omega arith) j q f s in
      let two : Worded r.length p (r.upto + 4 + 4) x y = worded_turn t h l m one (omega arith) n u z o in
      let c : r.upto + 4 + 4 ≡ p = omega arith in
      (worded_done (rw c at two)).0

  -- both at once
  pub adjacent_is : (t : List ℕ) (r : Running) {p v w x y z : ℕ} → Steps t → 2048 ≤ length t → Ran d r p → 4 ≤ r.upto → r.upto + 8 ≡ p → p ≤ length d
      → r.sum < 2 ^ 32 → r.power < 2 ^ 32 → v < 2 ^ 32 → w < 2 ^ 32
      → v ≡ word (take 4 (drop r.upto d)) → w ≡ word (take 4 (drop (r.upto + 4) d))
      → x ≡ eight_by t (bit_xor r.sum v) → y ≡ four_by t w → z ≡ eight_by t r.power
      → Ran d (record { upto = p; length = r.length; sum = bit_xor x y; power = z }) p
  adjacent_is t r {p} {v} {w} {x} {y} {z} h l g k e m i o j n q u f s c =
      let s₀ : bit_xor r.sum v < 2 ^ 32 = xor_lt 32 r.sum v i j in
      let one : Worded r.length p (r.upto + 4) (octets 4 (bit_xor r.sum v)) (octets 4 r.power) =
      worded_next m (worded_start r g k i) (omega arith) j q refl refl
      in
      let two : Worded r.length p (r.upto + 4 + 4) (bit_xor x y) z =
      worded_next m one (omega arith) n u
      (ap₂ bit_xor (f ∙ h.eight (bit_xor r.sum v) s₀ l ∙ octets_add 4 4 (bit_xor r.sum v)) (s ∙ h.four w n (omega arith))
      ∙ sym (octets_xor 4 (octets 4 (bit_xor r.sum v)) w))
      (c ∙ h.eight r.power o l ∙ octets_add 4 4 r.power)
      in
      let a : r.upto + 4 + 4 ≡ p = omega arith in
      (worded_done (rw a at two)).0

-- a length with its bytes the other way round
pub field_is : (n : ℕ) {x : ℕ} → n < 65536 → x ≡ swap_bytes w16 n → x * 2 ^ 16 % 2 ^ 32 ≡ field n
unfolding field
field_is n {x} h e =
    let k : x ≡ n % 256 * 256 + n / 256 = e ∙ omega arith in
    omega arith

pub relength_is : (r : Running) (n : ℕ) {a b x : ℕ} → a ≡ field n → b ≡ field r.length → x ≡ times 32 (bit_xor a b) r.power
    → record { upto = r.upto; length = n; sum = bit_xor r.sum x; power = r.power } ≡ relength_of r n
unfolding relength_of
relength_is r n {a} {b} {x} e f g =
    run refl refl (ap (bit_xor r.sum) (g ∙ ap (λ (z : ℕ). times 32 z r.power) (ap₂ bit_xor e f))) refl

module _ (d : List ℕ) (p : ℕ) (h : 20 ≤ p) (l : p ≤ length d) (k : p - 20 + 8 ≤ 65535) where
  relengthed : (m n : ℕ) → m < 65536 → n < 65536 → relength_of (running_at d p m) n ≡ running_at d p n
  unfolding relength_of running_at
  relengthed m n i j = run refl refl (register_other d p m n (omega arith) l i j) refl

  pub register_for_is : {n : ℕ} {q r : Running} → Ran d q p → p ≤ q.upto → n ≡ p - 20 + 8 → r ≡ relength_of q n → r ≡ running_at d p (p - 20 + 8)
  register_for_is {n} {q} {r} i j e f =
      let u : q.upto ≡ p = omega (arith, i.behind) in
      f ∙ ap (λ (x : Running). relength_of x n) (i.right ∙ ap (λ (z : ℕ). running_at d z q.length) u)
      ∙ relengthed q.length n i.short (omega arith)
      ∙ ap (running_at d p) e

  pub sum_is : {r : Running} {x : ℕ} → r ≡ running_at d p (p - 20 + 8) → x ≡ finished r.sum → bit_xor x 0x5354554E ≡ printed d p
  unfolding running_at
  sum_is {r} {x} e f =
      ap (λ (z : ℕ). bit_xor z 0x5354554E) (f ∙ ap (λ (z : Running). finished z.sum) e) ∙ print_of d p ∙ sym (owes_sum d p h l k)

  pub sum_ran : {r : Running} → r ≡ running_at d p (p - 20 + 8) → Ran d r p
  unfolding running_at
  sum_ran {r} e =
      subst (λ (x : Running). Ran d x p) (sym e) (record { right = refl; behind = omega arith; short = omega arith })
