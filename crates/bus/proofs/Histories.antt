-- One call more at the end of a history. Assumes nothing.
use Rattle.std.proofs.Common.{◌≡◌, ℕ, ◌+◌, ◌<◌, List, [], ◌∷◌, ◌++◌, length, get_or, take, sym, refl, ap, ◌∙◌, subst, arith}
use Rattle.std.proofs.lemmas.List.{take_more, length-take-le}
use Rattle.bus.specs.declared.call.Call.{Call}
use Rattle.bus.specs.Meaning.{Chip}
use Rattle.bus.specs.History.{Answer, Step, history, Answered, Run, Kept}

run_push : (xs : List Step) (x : Step) (c m d : Chip) → Run xs c m → Answered x.call x.answer m d → Run (xs ++ (x ∷ [])) c d
run_push [] x c m d e v = (d, subst (λ (y : Chip). Answered x.call x.answer y d) e v, refl)
run_push (y ∷ xs) x c m d (k, u, r) v = (k, u, run_push xs x k m d r v)

kept_push : {S : Type 0} (R : S → Call → Answer → S → Type 0) (xs : List Step) (x : Step) (c m d : S) → Kept R xs c m → R m x.call x.answer d → Kept R (xs ++ (x ∷ [])) c d
kept_push {S = S} R [] x c m d e v = (d, subst (λ (y : S). R y x.call x.answer d) e v, refl)
kept_push R (y ∷ xs) x c m d (k, u, r) v = (k, u, kept_push R xs x k m d r v)

history_push : (xs : List Call) (os : List Answer) (x : Call) (o : Answer) → length os ≡ length xs →
    history (xs ++ (x ∷ [])) (os ++ (o ∷ [])) ≡ history xs os ++ (record { call = x; answer = o } ∷ [])
history_push [] [] x o e = refl
history_push [] (p ∷ os) x o e = absurd (omega arith)
history_push (y ∷ xs) [] x o e = absurd (omega arith)
history_push (y ∷ xs) (p ∷ os) x o e = ap (λ (s : List Step). record { call = y; answer = p } ∷ s) (history_push xs os x o (omega arith))

-- the history of one call more, which stands at i
module _ (xs : List Call) (os os' : List Answer) (i : ℕ) (x : Call) (o : Answer) (more : i < length xs) (e : length os ≡ i) (grown : os' ≡ os ++ (o ∷ [])) where
  history_more : history (take (i + 1) xs) os' ≡ history (take i xs) os ++ (record { call = get_or xs i x; answer = o } ∷ [])
  history_more =
      ap (λ (ys : List Call). history ys os') (take_more xs i x more) ∙ ap (history (take i xs ++ (get_or xs i x ∷ []))) grown
      ∙ history_push (take i xs) os (get_or xs i x) o (e ∙ sym (length-take-le i xs (omega arith)))

  pub run_more : (c m d : Chip) → Run (history (take i xs) os) c m → Answered (get_or xs i x) o m d → Run (history (take (i + 1) xs) os') c d
  run_more c m d r v = subst (λ (s : List Step). Run s c d) (sym history_more) (run_push _ _ c m d r v)

  pub kept_more : {S : Type 0} (R : S → Call → Answer → S → Type 0) (c m d : S) → Kept R (history (take i xs) os) c m → R m (get_or xs i x) o d → Kept R (history (take (i + 1) xs) os') c d
  kept_more R c m d r v = subst (λ (s : List Step). Kept R s c d) (sym history_more) (kept_push R _ _ c m d r v)
