-- A scalar value's bytes are a character of the grammar, and each character is a scalar value's bytes.
use Rattle.std.specs.Prelude.{ℕ, ◌+◌, ◌-◌, ◌*◌, ◌/◌, ◌%◌, ◌≤◌, ◌<◌, List, [], ◌∷◌, ◌≡◌, refl, length, get_or}
use Rattle.std.proofs.Common.{sym, ap, ◌∙◌, arith, le-leb}
use Rattle.std.proofs.Math.Decide.{dec_le}
use Rattle.std.proofs.lemmas.Bool.{lt-leb}
use Rattle.utf8_spec.specs.Utf8.{◌to◌, Sequence, UTF8-tail, UTF8-char, Has, none, byte, this, later, Among, is}
use Rattle.utf8_spec.specs.Utf8Laws.{row}
use Rattle.utf8_spec.specs.Scalars.{Scalar, low, high, encode}

-- encoding, by the number's range
encode_1 : (n : ℕ) → n ≤ 0x7F → encode n ≡ n ∷ []
unfolding encode
encode_1 n h = simp (le-leb n 0x7F h)

encode_2 : (n : ℕ) → 0x80 ≤ n → n ≤ 0x7FF → encode n ≡ (0xC0 + n / 64) ∷ (0x80 + n % 64) ∷ []
unfolding encode
encode_2 n h l = simp (lt-leb n 0x7F (omega arith), le-leb n 0x7FF l)

encode_3 : (n : ℕ) → 0x800 ≤ n → n ≤ 0xFFFF → encode n ≡ (0xE0 + n / 4096) ∷ (0x80 + n / 64 % 64) ∷ (0x80 + n % 64) ∷ []
unfolding encode
encode_3 n h l = simp (lt-leb n 0x7F (omega arith), lt-leb n 0x7FF (omega arith), le-leb n 0xFFFF l)

encode_4 : (n : ℕ) → 0x10000 ≤ n → encode n ≡ (0xF0 + n / 262144) ∷ (0x80 + n / 4096 % 64) ∷ (0x80 + n / 64 % 64) ∷ (0x80 + n % 64) ∷ []
unfolding encode
encode_4 n h = simp (lt-leb n 0x7F (omega arith), lt-leb n 0x7FF (omega arith), lt-leb n 0xFFFF (omega arith))

-- a character's number
abbrev value : List ℕ → ℕ
value [] = 0
value (a ∷ []) = a
value (a ∷ b ∷ []) = (a - 0xC0) * 64 + (b - 0x80)
value (a ∷ b ∷ c ∷ []) = ((a - 0xE0) * 64 + (b - 0x80)) * 64 + (c - 0x80)
value (a ∷ b ∷ c ∷ d ∷ s) = (((a - 0xF0) * 64 + (b - 0x80)) * 64 + (c - 0x80)) * 64 + (d - 0x80)

-- and the bytes of that number, by the width
two_back : (a b n : ℕ) → 0xC2 ≤ a → a ≤ 0xDF → 0x80 ≤ b → b ≤ 0xBF → n ≡ value (a ∷ b ∷ []) → encode n ≡ a ∷ b ∷ []
two_back a b n h l m o e =
    let x : 0xC0 + n / 64 ≡ a = omega arith in
    let y : 0x80 + n % 64 ≡ b = omega arith in
    encode_2 n (omega arith) (omega arith) ∙ cc

three_back : (a b c n : ℕ) → 0xE0 ≤ a → a ≤ 0xEF → 0x80 ≤ b → b ≤ 0xBF → 0x80 ≤ c → c ≤ 0xBF
    → n ≡ value (a ∷ b ∷ c ∷ []) → 0x800 ≤ n → encode n ≡ a ∷ b ∷ c ∷ []
three_back a b c n h l m o p q e g =
    let x : 0xE0 + n / 4096 ≡ a = omega arith in
    let y : 0x80 + n / 64 % 64 ≡ b = omega arith in
    let z : 0x80 + n % 64 ≡ c = omega arith in
    encode_3 n g (omega arith) ∙ cc

four_back : (a b c d n : ℕ) → 0xF0 ≤ a → 0x80 ≤ b → b ≤ 0xBF → 0x80 ≤ c → c ≤ 0xBF → 0x80 ≤ d → d ≤ 0xBF
    → n ≡ value (a ∷ b ∷ c ∷ d ∷ []) → 0x10000 ≤ n → encode n ≡ a ∷ b ∷ c ∷ d ∷ []
four_back a b c d n h m o p q r s e g =
    let w : 0xF0 + n / 262144 ≡ a = omega arith in
    let x : 0x80 + n / 4096 % 64 ≡ b = omega arith in
    let y : 0x80 + n / 64 % 64 ≡ c = omega arith in
    let z : 0x80 + n % 64 ≡ d = omega arith in
    encode_4 n g ∙ cc

-- bytes that are the encoding of a scalar value
pub record Encoded (c : List ℕ) : Type 0 where
  pub number : ℕ
  pub scalar : Scalar number
  pub bytes : encode number ≡ c

encoded : {n : ℕ} {c : List ℕ} → Scalar n → encode n ≡ c → Encoded c
encoded {n} h e = record { number = n; scalar = h; bytes = e }

-- each row of the grammar is a range of the numbers
pub char_encoded : {c : List ℕ} → Among UTF8-char c → Encoded c
char_encoded (is this (byte {b = a} h l none)) = encoded (low (omega arith)) (encode_1 a (omega arith))
char_encoded (is (later this) (byte {b = a} h l (byte {b = b} m o none))) = encoded (low (omega arith)) (two_back a b _ (omega arith) (omega arith) m o refl)
char_encoded (is (later (later this)) (byte {b = a} h l (byte {b = b} m o (byte {b = c} p q none)))) =
    encoded (low (omega arith)) (three_back a b c _ (omega arith) (omega arith) (omega arith) o p q refl (omega arith))
char_encoded (is (later (later (later this))) (byte {b = a} h l (byte {b = b} m o (byte {b = c} p q none)))) =
    encoded (low (omega arith)) (three_back a b c _ (omega arith) (omega arith) m o p q refl (omega arith))
char_encoded (is (later (later (later (later this)))) (byte {b = a} h l (byte {b = b} m o (byte {b = c} p q none)))) =
    encoded (low (omega arith)) (three_back a b c _ (omega arith) (omega arith) m (omega arith) p q refl (omega arith))
char_encoded (is (later (later (later (later (later this))))) (byte {b = a} h l (byte {b = b} m o (byte {b = c} p q none)))) =
    encoded (high (omega arith) (omega arith)) (three_back a b c _ (omega arith) (omega arith) m o p q refl (omega arith))
char_encoded (is (later (later (later (later (later (later this)))))) (byte {b = a} h l (byte {b = b} m o (byte {b = c} p q (byte {b = d} r s none))))) =
    encoded (high (omega arith) (omega arith)) (four_back a b c d _ (omega arith) (omega arith) o p q r s refl (omega arith))
char_encoded (is (later (later (later (later (later (later (later this))))))) (byte {b = a} h l (byte {b = b} m o (byte {b = c} p q (byte {b = d} r s none))))) =
    encoded (high (omega arith) (omega arith)) (four_back a b c d _ (omega arith) m o p q r s refl (omega arith))
char_encoded (is (later (later (later (later (later (later (later (later this)))))))) (byte {b = a} h l (byte {b = b} m o (byte {b = c} p q (byte {b = d} r s none))))) =
    encoded (high (omega arith) (omega arith)) (four_back a b c d _ (omega arith) m (omega arith) p q r s refl (omega arith))
char_encoded {c = c} (is {q = q} (later (later (later (later (later (later (later (later (later x))))))))) _) = elim x [ ]

next : {lo hi b : ℕ} {q : Sequence} {c : List ℕ} → lo ≤ b → b ≤ hi → Has q c → Has (lo to hi ∷ q) (b ∷ c)
next h l r = byte h l r

of_row : {c : List ℕ} (k : ℕ) → k < length UTF8-char → Has (get_or UTF8-char k []) c → Among UTF8-char c
of_row k h r = is (row k h) r

-- and each range of the numbers a row
pub scalar_char : {n : ℕ} → Scalar n → Among UTF8-char (encode n)
scalar_char {n} r = by r (dec_le n 0x7F) (dec_le n 0x7FF) (dec_le n 0xFFF) (dec_le n 0xCFFF) (dec_le n 0xFFFF) (dec_le n 0x3FFFF) (dec_le n 0xFFFFF)
  where
    tailed : {q : Sequence} {c : List ℕ} (x : ℕ) → Has q c → Has (UTF8-tail ∷ q) ((0x80 + x % 64) ∷ c)
    tailed x h = next (omega arith) (omega arith) h

    by : Scalar n → Dec (n ≤ 0x7F) → Dec (n ≤ 0x7FF) → Dec (n ≤ 0xFFF) → Dec (n ≤ 0xCFFF) → Dec (n ≤ 0xFFFF) → Dec (n ≤ 0x3FFFF) → Dec (n ≤ 0xFFFFF)
        → Among UTF8-char (encode n)
    by r (yes h) _ _ _ _ _ _ = rw (encode_1 n h) (of_row 0 (omega arith) (next (omega arith) h none))
    by r (no h) (yes l) _ _ _ _ _ = rw (encode_2 n (omega arith) l) (of_row 1 (omega arith) (next (omega arith) (omega arith) (tailed n none)))
    by r (no h) (no g) (yes l) _ _ _ _ =
        rw (encode_3 n (omega arith) (omega arith)) (of_row 2 (omega arith) (next (omega arith) (omega arith) (next (omega arith) (omega arith) (tailed n none))))
    by r (no h) (no g) (no f) (yes l) _ _ _ =
        rw (encode_3 n (omega arith) (omega arith)) (of_row 3 (omega arith) (next (omega arith) (omega arith) (tailed (n / 64) (tailed n none))))
    by (low k) (no h) (no g) (no f) (no e) _ _ _ =
        rw (encode_3 n (omega arith) (omega arith)) (of_row 4 (omega arith) (next (omega arith) (omega arith) (next (omega arith) (omega arith) (tailed n none))))
    by (high k i) (no h) (no g) (no f) (no e) (yes l) _ _ =
        rw (encode_3 n (omega arith) l) (of_row 5 (omega arith) (next (omega arith) (omega arith) (tailed (n / 64) (tailed n none))))
    by (high k i) (no h) (no g) (no f) (no e) (no d) (yes l) _ =
        rw (encode_4 n (omega arith))
        (of_row 6 (omega arith) (next (omega arith) (omega arith) (next (omega arith) (omega arith) (tailed (n / 64) (tailed n none)))))
    by (high k i) (no h) (no g) (no f) (no e) (no d) (no c) (yes l) =
        rw (encode_4 n (omega arith))
        (of_row 7 (omega arith) (next (omega arith) (omega arith) (tailed (n / 4096) (tailed (n / 64) (tailed n none)))))
    by (high k i) (no h) (no g) (no f) (no e) (no d) (no c) (no b) =
        rw (encode_4 n (omega arith))
        (of_row 8 (omega arith) (next (omega arith) (omega arith) (next (omega arith) (omega arith) (tailed (n / 64) (tailed n none)))))

-- a number from its digits
digits : (p q r t x y n : ℕ) → p * 64 + q ≡ x → x * 64 + r ≡ y → y * 64 + t ≡ n → value ((0xF0 + p) ∷ (0x80 + q) ∷ (0x80 + r) ∷ (0x80 + t) ∷ []) ≡ n
digits p q r t x y n e f g = omega arith

value_encode : (n : ℕ) → value (encode n) ≡ n
value_encode n = by (dec_le n 0x7F) (dec_le n 0x7FF) (dec_le n 0xFFFF)
  where
    by : Dec (n ≤ 0x7F) → Dec (n ≤ 0x7FF) → Dec (n ≤ 0xFFFF) → value (encode n) ≡ n
    by (yes h) _ _ = rw (encode_1 n h)
    by (no h) (yes l) _ = rw (encode_2 n (omega arith) l) (omega arith)
    by (no h) (no g) (yes l) = rw (encode_3 n (omega arith) l) (omega arith)
    by (no h) (no g) (no f) =
        rw (encode_4 n (omega arith))
        (digits (n / 262144) (n / 4096 % 64) (n / 64 % 64) (n % 64) (n / 4096) (n / 64) n (omega arith) (omega arith) (omega arith))

pub encode_once : (m n : ℕ) → encode m ≡ encode n → m ≡ n
encode_once m n e = sym (value_encode m) ∙ ap value e ∙ value_encode n
