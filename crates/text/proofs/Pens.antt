-- What a pen puts, one text behind the other. Assumes nothing.
use mathlib.Core.Path.{◌≡◌, refl, sym, ap, subst, ◌∙◌}
use mathlib.Core.List.{List, [], ◌++◌, append_assoc, append-nil}
use Prim.Native.Nat.{ℕ}
use lib.IntN.{ℤ}
use mir.Syntax.{w32, w64}
use mir.Val.{SFits, to_z, of_z}
use mir.Facts.{to_z-of_z, Fits-of_z, sfits_to_z, sfits_widen}
use Rattle.text.specs.declared.pen.Pen.{Pen}
use Rattle.text.specs.Put.{Placed, placed, put}
use Rattle.text.specs.Pen.{Puts, placed_by}
use Rattle.text.proofs.Puts.{put_on, put-none, put-++}

infixr 30 ◌then◌
-- one text behind the other is one text
pub ◌then◌ : {o m n : Pen} {a b : List ℕ} → Puts a o m → Puts b m n → Puts (a ++ b) o n
◌then◌ {o} {a = a} {b = b} x y =
    record { put = y.put ∙ ap (λ (p : Placed). put_on p b) x.put ∙ put-++ o.out.now o.at a b; same = y.same ∙ x.same }

-- nothing is put
pub puts-none : (o : Pen) {text : List ℕ} → text ≡ [] → Puts text o o
puts-none o e = record { put = put-none o.out.now o.at e; same = refl }

-- another word for the same text
pub puts-as : {o n : Pen} {a b : List ℕ} → Puts a o n → a ≡ b → Puts b o n
puts-as {o} x e = record { put = x.put ∙ ap (put o.out.now o.at) e; same = x.same }

-- ---- a loop that puts a text part by part: what of the text is still to come

pub record Begun (whole rest : List ℕ) (o n : Pen) : Type 0 where
  pub front : List ℕ
  pub put : Puts front o n
  pub is : front ++ rest ≡ whole

pub begun : (o : Pen) (whole : List ℕ) → Begun whole whole o o
begun o whole = record { front = []; put = puts-none o refl; is = refl }

-- the next part is put, and the rest is left
pub next-put : {whole left part rest : List ℕ} {o m n : Pen} → Begun whole left o m → left ≡ part ++ rest → Puts part m n → Begun whole rest o n
next-put {part = part} {rest = rest} b e x =
    record {
      front = b.front ++ part;
      put = b.put then x;
      is = append_assoc b.front part rest ∙ ap (λ (s : List ℕ). b.front ++ s) (sym e) ∙ b.is;
    }

-- nothing is left
pub all-put : {whole left : List ℕ} {o n : Pen} → Begun whole left o n → left ≡ [] → Puts whole o n
all-put b e = puts-as b.put (sym (append-nil b.front) ∙ ap (λ (s : List ℕ). b.front ++ s) (sym e) ∙ b.is)

-- ---- a number of 32 bits with a sign, put as one of 64

pub puts-wide :
    {o n : Pen} (text : ℤ → List ℕ) {z wide : ℤ} → SFits w32 z → wide ≡ to_z w32 (of_z w32 z) → Puts (text (to_z w64 (of_z w64 wide))) o n → Puts (text z) o n
puts-wide text {z = z} {wide = wide} fits same x =
    let back : wide ≡ z = same ∙ to_z-of_z fits in
    let fits64 : SFits w64 wide = subst (SFits w64) (sym same) (sfits_widen tt (sfits_to_z (Fits-of_z fits))) in
    puts-as x (ap text (to_z-of_z fits64 ∙ back))

-- ---- from where the pen began

pub puts-from : {o n : Pen} {text out : List ℕ} {at : ℕ} → placed_by o ≡ placed out at → Puts text o n → placed_by n ≡ put out at text
puts-from {text = text} e x = x.put ∙ ap (λ (p : Placed). put_on p text) e

-- the same of what the slice holds once the pen is let go
pub held-as : {out now : List ℕ} {at : ℕ} {p : Placed} → out ≡ now → placed now at ≡ p → placed out at ≡ p
held-as {at = at} same e = ap (λ (l : List ℕ). placed l at) same ∙ e
