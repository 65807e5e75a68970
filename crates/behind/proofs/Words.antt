-- Words behind one another: a line that goes on, and numbers that are put one behind the other. Assumes nothing.
use mathlib.Core.Path.{◌≡◌, refl, sym, ap, ◌∙◌}
use mathlib.Core.List.{List, [], ◌∷◌, ◌++◌, map, append_assoc, append-nil}
use Prim.Native.Nat.{ℕ, ◌+◌, ◌<◌}
use native.Mathlib.Numerals.{add-one}
use lib.ListN.{length, take, get_or}
use lib.Seq.{take-suc}
use Rattle.std.proofs.lemmas.List.{map-append}
use Rattle.text.specs.Spaced.{spaced}
use Rattle.behind.specs.Behind.{behind}

pub behind-++ : (ws vs : List (List ℕ)) → behind ws ++ behind vs ≡ behind (ws ++ vs)
unfolding behind
behind-++ [] vs = refl
behind-++ (w ∷ ws) vs = append_assoc (32 ∷ w) (behind ws) (behind vs) ∙ ap (λ (l : List ℕ). (32 ∷ w) ++ l) (behind-++ ws vs)

pub spaced-is : (w : List ℕ) (ws : List (List ℕ)) → spaced (w ∷ ws) ≡ w ++ behind ws
unfolding spaced behind
spaced-is w [] = sym (append-nil w)
spaced-is w (v ∷ ws) = ap (λ (l : List ℕ). w ++ (32 ∷ l)) (spaced-is v ws)

-- a line, and words each behind a space, are a line of all the words
pub spaced-behind : (w : List ℕ) (ws vs : List (List ℕ)) → spaced (w ∷ ws) ++ behind vs ≡ spaced (w ∷ (ws ++ vs))
spaced-behind w ws vs =
    ap (λ (l : List ℕ). l ++ behind vs) (spaced-is w ws) ∙ append_assoc w (behind ws) (behind vs) ∙ ap (λ (l : List ℕ). w ++ l) (behind-++ ws vs) ∙ sym (spaced-is w (ws ++ vs))

-- the same with one word
pub spaced-next : (w : List ℕ) (ws : List (List ℕ)) (v : List ℕ) → spaced (w ∷ ws) ++ (32 ∷ v) ≡ spaced (w ∷ (ws ++ (v ∷ [])))
unfolding behind
spaced-next w ws v = ap (λ (l : List ℕ). spaced (w ∷ ws) ++ (32 ∷ l)) (sym (append-nil v)) ∙ spaced-behind w ws (v ∷ [])

-- a word more behind those before it
pub one_more : {A : Type 0} (f : A → List ℕ) (l : List A) (i : ℕ) (x : A) → i < length l → x ≡ get_or l i x → behind (map f (take i l)) ++ (32 ∷ f x) ≡ behind (map f (take (i + 1) l))
unfolding behind
one_more {A = A} f l i x h e =
    let more : take (i + 1) l ≡ take i l ++ (x ∷ []) = rw (add-one, take-suc l i x h) (λ j. take i l ++ (sym e j ∷ [])) in
    ap (λ (w : List ℕ). behind (map f (take i l)) ++ (32 ∷ w)) (sym (append-nil (f x)))
    ∙ behind-++ (map f (take i l)) (f x ∷ [])
    ∙ ap behind (sym (map-append f (take i l) (x ∷ [])))
    ∙ ap (λ (s : List A). behind (map f s)) (sym more)
