use Rattle.std.proofs.Common.{◌≡◌, true, false, Some, sym, ap, ◌∙◌}
use Rattle.casper_words.specs.declared.page.Right.{Right}
use Rattle.casper_words.specs.declared.page.Right.TheVariants as may
use Rattle.casper_cache.specs.Own as cache
use Rattle.casper_dir.specs.Rights.{right_at}
use Rattle.casper_model.specs.Held.{is_to_write}
use Rattle.casper_hub.specs.Given.{met}
use Rattle.casper_hub.proofs.Meeting.{meets_one, meets_as_it_is, met_none}
use Rattle.casper_hub.proofs.opening.meet.Goals as goal

pub returns-in-Write-clause-meets : goal.returns-in-Write-clause-meets
returns-in-Write-clause-meets c =
    meets_one c.args.who c.args.ask false c.in-Some.right c.args.pages.now c.give_up.new.self c.args.cache.now.held c.give_up.new.cache.held
    c.requires.covers (sym c.right.ensures ∙ c.in-Some.is) (λ never. cc)
    (sym (ap (λ (r : Right). met (is_to_write r) true (Some c.in-Some.right)) c.in-Write.is))
    c.give_up.ensures.count c.give_up.ensures.rights c.give_up.ensures.holders c.give_up.ensures.frames
    (ap (λ (own : cache.Own). own.held) c.give_up.ensures.cache)

pub returns-in-Write-right-clause-meets : goal.returns-in-Write-right-clause-meets
returns-in-Write-right-clause-meets c =
    meets_one c.args.who c.args.ask true c.in-Some.right c.args.pages.now c.give_up-in-Write-right.new.self c.args.cache.now.held c.give_up-in-Write-right.new.cache.held
    c.requires.covers (sym c.right.ensures ∙ c.in-Some.is) (λ _. c.in-Write-right.is)
    (sym (ap (λ (r : Right). met (is_to_write r) true (Some c.in-Some.right)) c.in-Read.is))
    c.give_up-in-Write-right.ensures.count c.give_up-in-Write-right.ensures.rights c.give_up-in-Write-right.ensures.holders c.give_up-in-Write-right.ensures.frames
    (ap (λ (own : cache.Own). own.held) c.give_up-in-Write-right.ensures.cache)

pub returns-in-Read-right-clause-meets : goal.returns-in-Read-right-clause-meets
returns-in-Read-right-clause-meets c =
    let was : right_at c.args.pages.now.rights c.args.who c.args.ask.page ≡ Some may.Read =
    sym c.right.ensures ∙ c.in-Some.is ∙ ap (λ (r : Right). Some r) c.in-Read-right.is in
    meets_as_it_is c.args.who c.args.ask c.args.pages.now c.args.cache.now.held c.requires.covers
    (was ∙ sym (ap (λ (r : Right). met (is_to_write r) true (Some may.Read)) c.in-Read.is) ∙ sym (ap (met (is_to_write c.args.ask.right) true) was))

pub returns-in_default-clause-meets : goal.returns-in_default-clause-meets
returns-in_default-clause-meets c =
    meets_as_it_is c.args.who c.args.ask c.args.pages.now c.args.cache.now.held c.requires.covers
    (met_none (is_to_write c.args.ask.right) true (right_at c.args.pages.now.rights c.args.who c.args.ask.page) (sym c.right.ensures ∙ c.in_default.is))
