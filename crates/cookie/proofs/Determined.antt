-- The contract of each public call determines its answer and each byte of a lent buffer.
use Rattle.std.specs.Prelude.{ℕ, Bool, List}
use Rattle.std.proofs.Common.{ap₂}
use Rattle.base.specs.DeterminedLaws.{by}
use Rattle.base.specs.Determined.{Determines}
use Rattle.buffers.specs.Put.{fits_at, put}
use Rattle.cookie.specs.Cookie.{cookie, cookie_at}
use Rattle.cookie.proofs.cookie_at.Kinds as cookie_at_kinds
use Rattle.cookie.proofs.cookie_at.Reads as cookie_at_reads
use Rattle.cookie.proofs.put_cookie.Kinds as put_cookie_kinds
use Rattle.cookie.proofs.put_cookie.Reads as put_cookie_reads

pub determined-cookie_at : Determines cookie_at_kinds.ps cookie_at_kinds.r {I = List ℕ × ℕ} {A = Bool} cookie_at_reads.Asked cookie_at_reads.Learnt
    (λ κs a. (a.0.now, a.1.0)) (λ κs z e. z)
determined-cookie_at = by cookie_at_kinds.ps cookie_at_kinds.r cookie_at_reads.Asked cookie_at_reads.Learnt _ _ (λ x. cookie_at x.0 x.1) (λ κs a y d i q. q)

pub determined-put_cookie : Determines put_cookie_kinds.ps put_cookie_kinds.r {I = List ℕ × ℕ} {A = Bool × List ℕ} put_cookie_reads.Asked put_cookie_reads.Learnt
    (λ κs a. (a.0.now, a.1.0)) (λ κs z e. (z, e.0.now))
determined-put_cookie =
    by put_cookie_kinds.ps put_cookie_kinds.r put_cookie_reads.Asked put_cookie_reads.Learnt _ _
    (λ x. (fits_at x.0 x.1 cookie, put x.0 x.1 cookie))
    (λ κs a y d i q. ap₂ (λ (b : Bool) (l : List ℕ). (b, l)) q.0 q.1)
