-- Six tables that nothing bars: each has its cells, is valid and accepted, and is what its place among the six asks for; and a text without a number. Assumes nothing.
use mathlib.Core.Path.{◌≡◌, refl, sym, ◌∙◌}
use mathlib.Core.Logic.{◌↔◌}
use mathlib.Core.Bool.{Bool, true, false, cond, true≢false}
use mathlib.Core.List.{List}
use Prim.Native.Nat.{ℕ}
use native.Mathlib.Omega.{arith}
use lib.Dec.{eqb}
use borrow.Author.Tests.{eqb-true, eq-eqb}
use Rattle.whole.specs.Same.{same_list}
use Rattle.whole.specs.Any.{any_of}
use Rattle.whole.proofs.Same.{eqb_tells, same_ℤ-tells, list_tells}
use Rattle.row.proofs.Deciding.{both}
use Rattle.reader.specs.declared.record.Record.{Record}
use Rattle.hull.specs.Six.{Component, is_short, is_unaccepted, frequencies, headings, belongs, are_six, six_barred}
use Rattle.proteus.specs.Answer.{any_spoilt, text_number}

-- ---- nothing bars them

pub record Unbarred (six : List Component) : Type 0 where
  pub lent : any_of is_short six ≡ false
  pub accepted : any_of is_unaccepted six ≡ false
  pub belong : are_six six ≡ true

pub unbarred : (six : List Component) → six_barred six ≡ 0 → Unbarred six
unfolding six_barred
unbarred six h = go (any_of is_short six) (any_of is_unaccepted six) (are_six six) refl refl refl h
  where
    go :
        (short refused all : Bool)
        → any_of is_short six ≡ short
        → any_of is_unaccepted six ≡ refused
        → are_six six ≡ all
        → cond {A = ℕ} short 1 (cond refused 2 (cond all 0 18)) ≡ 0
        → Unbarred six
    go true refused all e f g h = absurd (omega arith)
    go false true all e f g h = absurd (omega arith)
    go false false false e f g h = absurd (omega arith)
    go false false true e f g h = record { lent = e; accepted = f; belong = g }

-- what a text without a number is
pub record Free (cs : List Component) : Type 0 where
  pub unbarred : six_barred cs ≡ 0
  pub whole : any_spoilt cs ≡ false

pub free : (cs : List Component) → text_number cs ≡ 0 → Free cs
unfolding text_number
free cs = go (eqb (six_barred cs) 0) (any_spoilt cs) refl refl
  where
    go : (a b : Bool) → eqb (six_barred cs) 0 ≡ a → any_spoilt cs ≡ b → ◌≡◌ {A = ℕ} (cond a (cond b 15 0) (six_barred cs)) 0 → Free cs
    go true true f s e = absurd (omega arith)
    go true false f s e = record { unbarred = eqb-true (six_barred cs) 0 f; whole = s }
    go false b f s e = absurd (true≢false (sym (eq-eqb (six_barred cs) 0 e) ∙ f))

-- ---- each belongs where it stands

-- what is asked of a table at a place among the six
pub record Belongs (first : Record) (place : ℕ) (r : Record) : Type 0 where
  pub difference : r.choices.kind ≡ 0
  pub component : r.choices.component ≡ place
  pub coverage : r.choices.coverage ≡ first.choices.coverage
  pub same-frequencies : frequencies r ≡ frequencies first
  pub same-headings : headings r ≡ headings first

pub belongs-exactly : (first : Record) (place : ℕ) (r : Record) → (belongs first place r ≡ true) ↔ Belongs first place r
unfolding belongs
belongs-exactly first place r = (forth, back)
  where
    forth : belongs first place r ≡ true → Belongs first place r
    forth e =
        let (kind, e₁) = both (eqb r.choices.kind 0) _ e in
        let (component, e₂) = both (eqb r.choices.component place) _ e₁ in
        let (coverage, e₃) = both (eqb r.choices.coverage first.choices.coverage) _ e₂ in
        let (fs, hs) = both (same_list eqb (frequencies r) (frequencies first)) _ e₃ in
        record {
          difference = eqb-true _ _ kind;
          component = eqb-true _ _ component;
          coverage = eqb-true _ _ coverage;
          same-frequencies = ((list_tells eqb_tells).exactly _ _).0 fs;
          same-headings = ((list_tells same_ℤ-tells).exactly _ _).0 hs;
        }

    back : Belongs first place r → belongs first place r ≡ true
    back b =
        rw (
          eq-eqb _ _ b.difference,
          eq-eqb _ _ b.component,
          eq-eqb _ _ b.coverage,
          ((list_tells eqb_tells).exactly _ _).1 b.same-frequencies,
          ((list_tells same_ℤ-tells).exactly _ _).1 b.same-headings,
        )
