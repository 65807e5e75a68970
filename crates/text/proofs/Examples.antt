-- Worked examples: numbers as text and read from it, rows read from lines, and texts put into slices that have room for all of them, for half and for nothing. All
-- of that is computed; and how long three lines get.
-- Assumes nothing.
use mathlib.Core.Path.{◌≡◌, refl, subst}
use mathlib.Core.Bool.{Bool, true, false, ◌&&◌}
use mathlib.Core.List.{List, [], ◌∷◌, map, zip_with}
use mathlib.Core.Option.{Option, none, some, bind}
use Prim.Native.Nat.{ℕ, zero, suc, ◌≤◌, ◌<◌}
use native.Mathlib.Omega.{arith}
use Prim.Native.Char.{code}
use Prim.Native.String.{String, [] as []ˢ, ◌∷◌ as ◌∷ˢ◌}
use lib.Dec.{T, eqb}
use lib.IntN.{ℤ, pos, neg_ℤ, nat_abs}
use lib.ListN.{length, replicate, length-map}
use Rattle.whole.specs.Same.{same_ℤ}
use Rattle.field.specs.Form.{all_digits, numeral}
use Rattle.field.specs.Text.{bytes}
use Rattle.text.specs.Decimal.{digits, width_in, width, natural, signed, fraction, unsigned, decimal}
use Rattle.text.specs.Spaced.{spaced}
use Rattle.text.specs.Put.{Placed, put}
use Rattle.text.specs.Parts.{onto, parts, words_of, text_of, but_last, lines_of}
use Rattle.text.specs.Reading.{read_natural, read_size, read_decimal}
use Rattle.text.specs.Rows.{collected, read_row, read_list, read_rows}
use Rattle.text.proofs.Widths.{natural-few, minus-few, decimal-few}
use Rattle.text.proofs.Apart.{Each, lacking, lines-back}
use Rattle.text.proofs.RowsBack.{indexed-free}
use Rattle.text.proofs.Lengths.{Within, words-few, decimals-within, list-few}

-- these bytes are those of the quoted text; `_` stands for a byte 0
spells : List ℕ → String → Bool
spells [] []ˢ = true
spells [] (c ∷ˢ s) = false
spells (b ∷ bs) []ˢ = false
spells (b ∷ bs) (c ∷ˢ s) = byte_is b (code c) && spells bs s
  where
    byte_is : ℕ → ℕ → Bool
    byte_is zero c = eqb c 95
    byte_is (suc b) c = eqb (suc b) c

-- ---- numbers

data Number : Type 0 where
  reads : ℤ → String → Number

numbers : List Number
numbers =
    reads (pos 0) "0"
    ∷ reads (pos 9) "9"
    ∷ reads (pos 10) "10"
    ∷ reads (pos 1_005) "1005"
    ∷ reads (pos 4_294_967_295) "4294967295"
    ∷ reads (pos 18_446_744_073_709_551_615) "18446744073709551615"
    ∷ reads (neg_ℤ (pos 1)) "-1"
    ∷ reads (neg_ℤ (pos 2_147_483_648)) "-2147483648"
    ∷ reads (neg_ℤ (pos 9_223_372_036_854_775_808)) "-9223372036854775808"
    ∷ []

all_read : List Number → Bool
all_read [] = true
all_read (reads z s ∷ rest) = spells (signed z) s && all_read rest

numbers-read : T (all_read numbers)
unfolding all_read spells numbers signed natural width width_in digits
numbers-read = tt

-- ---- decimals

-- units of 10^-places as a text, which is read back
data Fixed : Type 0 where
  fixed : ℕ → ℤ → String → Fixed

decimals : List Fixed
decimals =
    -- millionths: below 0 with a whole part of 0, nothing, the largest
    fixed 6 (neg_ℤ (pos 20_000)) "-0.020000"
    ∷ fixed 6 (neg_ℤ (pos 1)) "-0.000001"
    ∷ fixed 6 (pos 0) "0.000000"
    ∷ fixed 6 (pos 1_000_000_000) "1000.000000"
    ∷ fixed 6 (neg_ℤ (pos 1_000_000_000)) "-1000.000000"
    -- millidegrees
    ∷ fixed 3 (neg_ℤ (pos 179_999)) "-179.999"
    ∷ fixed 3 (pos 500) "0.500"
    -- billionths
    ∷ fixed 9 (pos 3_141_592_654) "3.141592654"
    ∷ fixed 9 (neg_ℤ (pos 9_223_372_036_854_775_808)) "-9223372036.854775808"
    -- no places, and more than a word has digits
    ∷ fixed 0 (neg_ℤ (pos 12)) "-12"
    ∷ fixed 0 (pos 0) "0"
    ∷ fixed 21 (neg_ℤ (pos 7)) "-0.000000000000000000007"
    ∷ []

reads_as : Option ℤ → ℤ → Bool
reads_as none z = false
reads_as (some y) z = same_ℤ y z

both : List Fixed → Bool
both [] = true
both (fixed places z s ∷ rest) = (spells (decimal places z) s && reads_as (read_decimal places (bytes s)) z) && both rest

decimals-both : T (both decimals)
unfolding both decimals spells bytes reads_as decimal unsigned fraction natural width width_in digits read_decimal read_size read_natural parts onto all_digits numeral
decimals-both = tt

-- texts that are no decimal of so many places
data Other : Type 0 where
  other : ℕ → String → Other

others : List Other
others =
    -- no digit before the point, one place too few, one too many, a point with no place, two points
    other 1 ".5"
    ∷ other 3 "0.50"
    ∷ other 3 "0.5000"
    ∷ other 0 "1.0"
    ∷ other 0 "1."
    ∷ other 1 "1.2.3"
    -- what is no digit, a plus, two minuses, a minus alone, nothing
    ∷ other 1 "1.x"
    ∷ other 1 "+1.0"
    ∷ other 1 "--1.0"
    ∷ other 0 "-"
    ∷ other 0 ""
    ∷ []

is_none : Option ℤ → Bool
is_none none = true
is_none (some z) = false

none_read : List Other → Bool
none_read [] = true
none_read (other places s ∷ rest) = is_none (read_decimal places (bytes s)) && none_read rest

others-none : T (none_read others)
unfolding none_read others bytes is_none read_decimal read_size read_natural parts onto all_digits numeral
others-none = tt

-- ---- rows

-- two indexes and a value of the matrix of example H, in lines
rows-read :
    read_rows (0 ∷ 0 ∷ 6 ∷ 6 ∷ []) (lines_of (bytes "0 1 -0.030000 0.004000\n1 1 -0.036000 0.000000\n"))
    ≡ some ((pos 0 ∷ pos 1 ∷ neg_ℤ (pos 30_000) ∷ pos 4_000 ∷ []) ∷ (pos 1 ∷ pos 1 ∷ neg_ℤ (pos 36_000) ∷ pos 0 ∷ []) ∷ [])
unfolding bytes lines_of but_last parts onto words_of all_digits numeral read_natural read_size read_decimal collected read_row read_rows zip_with bind
rows-read = refl

-- a row with a column too few is none, and what stands behind the last line feed is no line
rows_other :
    (read_rows (0 ∷ 3 ∷ []) (lines_of (bytes "1 0.500\n2\n")) ≡ none)
    × (read_rows (0 ∷ 3 ∷ []) (lines_of (bytes "1 0.500\n2")) ≡ some ((pos 1 ∷ pos 500 ∷ []) ∷ []))
    × (read_list 3 (bytes "-90.000 0.000 180.000") ≡ some (neg_ℤ (pos 90_000) ∷ pos 0 ∷ pos 180_000 ∷ []))
    × (read_list 3 (bytes "-90.000  180.000") ≡ none)
    × (read_list 3 [] ≡ some [])
unfolding bytes lines_of but_last parts onto words_of all_digits numeral read_natural read_size read_decimal collected read_row read_rows read_list zip_with bind
rows_other = (refl, refl, refl, refl, refl)

-- a name and the list that it names, for any list
named_back :
    (frequencies : List ℤ)
    → lines_of (text_of (bytes "$QTFFrequencies" ∷ spaced (map (decimal 9) frequencies) ∷ []))
    ≡ bytes "$QTFFrequencies" ∷ spaced (map (decimal 9) frequencies) ∷ []
unfolding bytes
named_back frequencies = lines-back _ (lacking 10 (bytes "$QTFFrequencies") tt, (indexed-free 9 [] frequencies, tt))

-- ---- slices

-- into a slice of so many bytes 0, from a place on: what it holds then, and the next place
data Slice : Type 0 where
  holds : ℕ → ℕ → List ℕ → String → ℕ → Slice

slices : List Slice
slices =
    -- room for all of it; from a place on; exactly enough
    holds 8 0 (natural 3_107) "3107____" 4
    ∷ holds 8 2 (signed (neg_ℤ (pos 45))) "__-45___" 5
    ∷ holds 4 0 (natural 3_107) "3107" 4
    -- room for half of it: its front, and nothing behind
    ∷ holds 6 4 (natural 3_107) "____31" 6
    -- a full slice, one with no byte at all, and a place past the end: nothing is written, and the place stays
    ∷ holds 6 6 (natural 3_107) "______" 6
    ∷ holds 0 0 (natural 3_107) "" 0
    ∷ holds 6 7 (natural 3_107) "______" 7
    -- a decimal, whole and its front
    ∷ holds 12 1 (decimal 6 (neg_ℤ (pos 20_000))) "_-0.020000__" 10
    ∷ holds 6 0 (decimal 6 (neg_ℤ (pos 20_000))) "-0.020" 6
    -- words
    ∷ holds 12 0 (spaced (natural 12 ∷ signed (neg_ℤ (pos 3)) ∷ natural 0 ∷ [])) "12 -3 0_____" 7
    ∷ []

ends : Placed → String → ℕ → Bool
ends p s next = spells p.out s && eqb p.at next

all_hold : List Slice → Bool
all_hold [] = true
all_hold (holds long at text s next ∷ rest) = ends (put (replicate long 0) at text) s next && all_hold rest

slices-hold : T (all_hold slices)
unfolding all_hold slices ends spells put spaced signed decimal unsigned fraction natural width width_in digits
slices-hold = tt

-- ---- how long lines get

-- four indexes, of two digits and of one, and twelve parts of at most 10^9 millionths
matrix-row :
    (i j h k : ℕ) (values : List ℤ)
    → i < 20
    → j < 20
    → h < 4
    → k < 4
    → length values ≡ 12
    → Each (λ z. nat_abs z ≤ 1_000_000_000) values
    → length (spaced (natural i ∷ natural j ∷ natural h ∷ natural k ∷ map (decimal 6) values)) ≤ 165
matrix-row i j h k values hi hj hh hk long small =
    let within = subst (λ n. Within (replicate n 12) (map (decimal 6) values)) long (decimals-within 6 12 values (each-few values small)) in
    words-few (2 ∷ 2 ∷ 1 ∷ 1 ∷ replicate 12 12)
    (natural i ∷ natural j ∷ natural h ∷ natural k ∷ map (decimal 6) values)
    (natural-few 1 i (omega arith), (natural-few 1 j (omega arith), (natural-few 0 h (omega arith), (natural-few 0 k (omega arith), within))))
  where
    each-few : (zs : List ℤ) → Each (λ z. nat_abs z ≤ 1_000_000_000) zs → Each (λ z. length (decimal 6 z) ≤ 12) zs
    each-few [] h = tt
    each-few (z ∷ zs) h = (omega (arith, decimal-few 6 3 z (omega arith), minus-few z), each-few zs h.1)

-- twenty frequencies at most, in billionths below 10^10, which have no sign
frequency-line :
    (frequencies : List ℕ)
    → length frequencies ≤ 20
    → Each (λ n. n < 10_000_000_000) frequencies
    → length (spaced (map (decimal 9) (map pos frequencies))) ≤ 239
frequency-line ns long small =
    omega (arith, list-few 9 11 (map pos ns) (each-few ns small), length-map ns pos)
  where
    each-few : (ns : List ℕ) → Each (λ n. n < 10_000_000_000) ns → Each (λ z. length (decimal 9 z) ≤ 11) (map pos ns)
    each-few [] h = tt
    each-few (n ∷ ns) h = (omega (arith, decimal-few 9 0 (pos n) (omega arith)), each-few ns h.1)

-- four headings at most, in millidegrees of at most 180,000
heading-line :
    (headings : List ℤ) → length headings ≤ 4 → Each (λ z. nat_abs z ≤ 180_000) headings → length (spaced (map (decimal 3) headings)) ≤ 35
heading-line headings long small = omega (arith, list-few 3 8 headings (each-few headings small))
  where
    each-few : (zs : List ℤ) → Each (λ z. nat_abs z ≤ 180_000) zs → Each (λ z. length (decimal 3 z) ≤ 8) zs
    each-few [] h = tt
    each-few (z ∷ zs) h = (omega (arith, decimal-few 3 2 z (omega arith), minus-few z), each-few zs h.1)
