-- What a caller goes by: a sum and a negation are exact below 2^127, and rounding clips nothing of a total that is at most 4,000,000,000,000,000,000
-- times 2^30. (With bounds by `_within_` of crates/whole, `.exact (fits tt (within-+ h k))` says the first at once.) Assumes nothing.
use Rattle.std.proofs.Common.{◌≡◌, ◌+◌, ◌*◌, ◌^◌, ◌<◌, ◌≤◌, ◌+ℤ◌, neg_ℤ, nat_abs, lt_of_le_of_lt, lit<}
use Rattle.whole.specs.Nearest.{nearest_ℤ}
use Rattle.whole.proofs.Magnitude.{triangle}
use Rattle.whole.proofs.Nearest.{nearest-within}
use Rattle.whole.proofs.Words.{◌within◌, fits, within-neg}
use Rattle.total.specs.declared.words.Total.{Total}
use Rattle.total.specs.Total.{meaning, Added, Negated, rounded_of}
use Rattle.total.proofs.Rounds.{clipped-small}

pub exact-add : {a b r : Total} → nat_abs (meaning a) + nat_abs (meaning b) < 2 ^ 127 → Added a b r → meaning r ≡ meaning a +ℤ meaning b
exact-add {a} {b} h e =
    let small : meaning a +ℤ meaning b within 2 ^ 127 = record { small = lt_of_le_of_lt (triangle (meaning a) (meaning b)) h } in
    e.exact (fits tt small)

pub exact-negated : {a r : Total} → nat_abs (meaning a) < 2 ^ 127 → Negated a r → meaning r ≡ neg_ℤ (meaning a)
exact-negated {a} h e =
    let small : meaning a within 2 ^ 127 = record { small = h } in
    e.exact (fits tt (within-neg small))

pub rounded-is : (t : Total) → nat_abs (meaning t) ≤ 4_000_000_000_000_000_000 * 2 ^ 30 → rounded_of t ≡ nearest_ℤ (meaning t) (2 ^ 30)
unfolding rounded_of
rounded-is t h =
    clipped-small (nearest_ℤ (meaning t) (2 ^ 30))
    (lt_of_le_of_lt (nearest-within (meaning t) (2 ^ 30) 4_000_000_000_000_000_000 (lit< tt) h) (lit< tt))
