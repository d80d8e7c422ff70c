use Rattle.std.proofs.Common.{List, ◌∙◌, sym, ap, subst, false}
use Rattle.casper_cache.specs.declared.held.Held.{Held}
use Rattle.casper_cache.specs.Holding.{right_of}
use Rattle.casper_cache.specs.Own.{Own}
use Rattle.casper_hub.specs.Given.{GivesUp}
use Rattle.casper_hub.proofs.Giving.{gives_one}
use Rattle.casper_hub.proofs.Installing.{IsLast, last_of, last_right, right_within, all_agree}
use Rattle.casper_hub.proofs.install.give_up_last.Goals as goal

pub give_up-requires-clause-page : goal.give_up-requires-clause-page
give_up-requires-clause-page c =
    let last : IsLast c.in-Some.page.now c.args.cache.now.held =
    last_of c.args.cache.now.held c.as_slice.result.now c.in-Some.page.now c.requires.covers.distinct (c.as_slice.ensures ∙ c.evict-last.ensures) (sym c.in-Some.ensures.value) in
    let right = last_right c.args.pages.now.rights c.args.who c.in-Some.page.now c.args.cache.now.held c.requires.all last in
    right_within c.args.pages.now.rights c.args.who c.in-Some.page.now right.0 right.1

pub give_up-requires-clause-held : goal.give_up-requires-clause-held
give_up-requires-clause-held c =
    let last : IsLast c.in-Some.page.now c.args.cache.now.held =
    last_of c.args.cache.now.held c.as_slice.result.now c.in-Some.page.now c.requires.covers.distinct (c.as_slice.ensures ∙ c.evict-last.ensures) (sym c.in-Some.ensures.value) in
    last.held_is

pub returns-clause-gives : goal.returns-clause-gives
returns-clause-gives c =
    let last : IsLast c.in-Some.page.now c.args.cache.now.held =
    last_of c.args.cache.now.held c.as_slice.result.now c.in-Some.page.now c.requires.covers.distinct (c.as_slice.ensures ∙ c.evict-last.ensures) (sym c.in-Some.ensures.value) in
    let right = last_right c.args.pages.now.rights c.args.who c.in-Some.page.now c.args.cache.now.held c.requires.all last in
    subst (λ (l : List Held). GivesUp c.args.who c.args.pages.now c.args.cache.now.held c.give_up.new.self l) (sym (ap (λ (own : Own). own.held) c.give_up.ensures.cache))
    (gives_one c.args.who c.in-Some.page.now false right.0 c.args.pages.now c.give_up.new.self c.args.cache.now.held c.requires.covers right.1 (λ e. cc)
    c.give_up.ensures.count c.give_up.ensures.rights c.give_up.ensures.holders c.give_up.ensures.frames)

pub returns-clause-all : goal.returns-clause-all
returns-clause-all c q =
    all_agree c.args.pages.now.rights c.give_up.new.self.rights c.args.who c.in-Some.page.now c.args.cache.now.held c.requires.covers.client c.give_up.ensures.rights c.requires.all q
    ∙ sym (ap (λ (own : Own). right_of q own.held) c.give_up.ensures.cache)

pub returns-clause-held : goal.returns-clause-held
returns-clause-held c =
    let last : IsLast c.in-Some.page.now c.args.cache.now.held =
    last_of c.args.cache.now.held c.as_slice.result.now c.in-Some.page.now c.requires.covers.distinct (c.as_slice.ensures ∙ c.evict-last.ensures) (sym c.in-Some.ensures.value) in
    ap (λ (own : Own). own.held) c.give_up.ensures.cache ∙ last.rest
