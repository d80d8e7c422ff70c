use Rattle.std.proofs.Common.{◌≡◌, ℕ, List, [], ◌∷◌, sym, ap, ◌∙◌}
use Rattle.casper_words.specs.declared.call.Call.{Call}
use Rattle.casper_space.specs.WordCalls.{Passes}

-- what no call changes, no list of calls changes
pub stays : {S : Type 0} (step : S → Call → S → Type 0) (size : S → ℕ)
    → ((before : S) (call : Call) (after : S) → step before call after → size after ≡ size before)
    → (calls : List Call) (before after : S) → Passes step before calls after → size after ≡ size before
stays step size stay [] before after same = sym (ap size same)
stays step size stay (call ∷ calls) before after (between, one, others) =
    stays step size stay calls between after others ∙ stay before call between one
