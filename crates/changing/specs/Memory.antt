-- The bench's own cells and flags, written by somebody else: those of one pair of nodes, and all that lie beyond a table's.
use Rattle.std.specs.Prelude.{cond, ◌&&◌, List, ◌++◌, ℕ, ◌+◌, ◌*◌, ◌-◌, leb, ltb, eqb, ℤ, pos, length, take, set, replicate, Option, Some, None}
use Rattle.script.specs.declared.numbers.Numbers.{Numbers}
use Rattle.script.specs.Place.{number_at, natural_of, byte_of, signed_of}
use Rattle.replies.specs.declared.reply.Reply.{Reply}
use Rattle.asking.specs.Memory.{place_of}

-- what is left: the reply, the cells and the flags
pub record Leaving : Type 0 where
  pub reply : Reply
  pub cells : List ℤ
  pub flags : List ℕ

abbrev pub leaving : Reply → List ℤ → List ℕ → Leaving
leaving reply cells flags = record { reply = reply; cells = cells; flags = flags }

-- ---- `poke ROW COLUMN RE IM FLAG`

-- both parts of an entry of a table, where there are cells for both
unfoldable pub entry_set : List ℤ → ℕ → ℤ → ℤ → List ℤ
entry_set cells p re im = cond (ltb p 6_400 && ltb (2 * p + 1) (length cells)) (set (set cells (2 * p) re) (2 * p + 1) im) cells

unfoldable pub poke_with : Option ℕ → Option ℤ → Option ℤ → Option ℕ → List ℤ → List ℕ → Leaving
poke_with (Some p) (Some re) (Some im) (Some flag) cells flags = leaving Reply.Poked (entry_set cells p re im) (set flags p flag)
poke_with None re im flag cells flags = leaving Reply.Unknown cells flags
poke_with (Some p) None im flag cells flags = leaving Reply.Unknown cells flags
poke_with (Some p) (Some re) None flag cells flags = leaving Reply.Unknown cells flags
poke_with (Some p) (Some re) (Some im) None cells flags = leaving Reply.Unknown cells flags

unfoldable pub poke_as : Numbers → List ℤ → List ℕ → Leaving
poke_as n cells flags =
    cond (eqb n.count 5)
    (poke_with (place_of (natural_of (number_at n 0)) (natural_of (number_at n 1))) (signed_of (number_at n 2)) (signed_of (number_at n 3)) (byte_of (natural_of (number_at n 4))) cells flags)
    (leaving Reply.Unknown cells flags)

-- ---- `spill V`, 100 at most

-- all from a place on
unfoldable pub filled_from : {A : Type 0} → ℕ → A → List A → List A
filled_from at v l = take at l ++ replicate (length l - at) v

unfoldable pub spill_as : Option ℕ → List ℤ → List ℕ → Leaving
spill_as None cells flags = leaving Reply.Unknown cells flags
spill_as (Some v) cells flags =
    cond (leb v 100) (leaving (Reply.Spilt v) (filled_from 12_800 (pos v) cells) (filled_from 6_400 v flags)) (leaving Reply.Unknown cells flags)
