use Rattle.std.proofs.Common.{◌≡◌, ◌<◌, ◌∙◌, true, List, Some, is_some, refl, sym, ap, subst}
use Rattle.casper_words.specs.declared.page.Right.TheVariants as may
use Rattle.casper_dir.specs.Rights.{right_at}
use Rattle.casper_cache.specs.declared.held.Held.{Held}
use Rattle.casper_cache.specs.Holding.{right_of, lowered}
use Rattle.casper_cache.specs.Own.{Own}
use Rattle.casper_hub.specs.Given.{GivesUp, lowered_right}
use Rattle.casper_hub.proofs.Giving.{gives_itself, gives_one, gives_again, covers_after}
use Rattle.casper_hub.proofs.Installing.{right_within}
use Rattle.casper_hub.proofs.HandedIn.{first_is_to_write, agree_lowered, lowered_first, lowered_among_all, lowered_fewer, count_to_write, all_lowered, none_to_write, none_writes, writer_of}
use Rattle.casper_hub.proofs.hand_in.hand_in.Goals as goal

pub loop-page-init : goal.loop-page-init
loop-page-init c = record {
  gives = gives_itself c.args.who c.args.pages.now c.args.cache.now.held c.requires.covers;
  all = c.requires.all;
  covers = c.requires.covers;
  rights = λ page. refl;
  kept = refl;
  rest = refl;
}

-- the page is held for writing
held_to_write : (c : goal.After-give_up-arg-in-Some-1) → right_of c.in-Some.page c.loop-page.cache.held ≡ Some may.Write
held_to_write c = first_is_to_write c.in-Some.page c.loop-page.cache.held c.loop-page.invariant.covers.distinct (sym c.first_to_write.ensures.first ∙ c.in-Some.is)

pub give_up-requires-clause-page : goal.give_up-requires-clause-page
give_up-requires-clause-page c =
    right_within c.loop-page.pages.rights c.args.who c.in-Some.page may.Write (c.loop-page.invariant.all c.in-Some.page ∙ held_to_write c)

pub give_up-requires-clause-held : goal.give_up-requires-clause-held
give_up-requires-clause-held c = ap is_some (held_to_write c)

pub give_up-requires-clause-framed : goal.give_up-requires-clause-framed
give_up-requires-clause-framed c writes = c.loop-page.invariant.covers.framed c.in-Some.page writes

pub give_up-requires-clause-kept : goal.give_up-requires-clause-kept
give_up-requires-clause-kept c keeps = writer_of c.loop-page.pages.rights c.args.who c.in-Some.page (c.loop-page.invariant.all c.in-Some.page ∙ held_to_write c)

pub loop-page-smaller : goal.loop-page-smaller
loop-page-smaller c =
    let held_is : c.give_up.new.cache.held ≡ lowered c.in-Some.page c.loop-page.cache.held = ap (λ (own : Own). own.held) c.give_up.ensures.cache in
    subst (λ (l : List Held). count_to_write l < count_to_write c.loop-page.cache.held) (sym held_is)
    (lowered_fewer c.in-Some.page c.loop-page.cache.held (sym c.first_to_write.ensures.first ∙ c.in-Some.is))

pub loop-page-preserved : goal.loop-page-preserved
loop-page-preserved c =
    let before = c.loop-page.cache.held in
    let held_is : c.give_up.new.cache.held ≡ lowered c.in-Some.page before = ap (λ (own : Own). own.held) c.give_up.ensures.cache in
    let writes : right_of c.in-Some.page before ≡ Some may.Write =
    first_is_to_write c.in-Some.page before c.loop-page.invariant.covers.distinct (sym c.first_to_write.ensures.first ∙ c.in-Some.is) in
    let was : right_at c.loop-page.pages.rights c.args.who c.in-Some.page ≡ Some may.Write = c.loop-page.invariant.all c.in-Some.page ∙ writes in
    let gives : GivesUp c.args.who c.loop-page.pages before c.give_up.new.self c.give_up.new.cache.held =
    subst (λ (l : List Held). GivesUp c.args.who c.loop-page.pages before c.give_up.new.self l) (sym held_is)
    (gives_one c.args.who c.in-Some.page true may.Write c.loop-page.pages c.give_up.new.self before c.loop-page.invariant.covers was (λ _. refl)
    c.give_up.ensures.count c.give_up.ensures.rights c.give_up.ensures.holders c.give_up.ensures.frames) in
    record {
      gives = gives_again c.args.who c.args.pages.now c.loop-page.pages c.give_up.new.self c.args.cache.now.held before c.give_up.new.cache.held c.loop-page.invariant.gives gives;
      all = λ page.
          agree_lowered c.loop-page.pages.rights c.give_up.new.self.rights c.args.who c.in-Some.page before c.requires.covers.client c.give_up.ensures.rights writes c.loop-page.invariant.all page
          ∙ sym (ap (right_of page) held_is);
      covers = covers_after c.args.who c.loop-page.pages c.give_up.new.self before c.give_up.new.cache.held c.loop-page.invariant.covers gives;
      rights = λ page.
          lowered_first c.loop-page.pages.rights c.give_up.new.self.rights c.args.who c.in-Some.page c.requires.covers.client c.give_up.ensures.rights was page
          ∙ c.loop-page.invariant.rights page;
      kept = ap all_lowered held_is ∙ lowered_among_all c.in-Some.page before ∙ c.loop-page.invariant.kept;
      rest = c.give_up.ensures.cache ∙ ap (λ (own : Own). record own { held = lowered c.in-Some.page before }) c.loop-page.invariant.rest
          ∙ ap (λ (l : List Held). record (c.args.cache.now) { held = l }) (sym held_is);
    }

pub returns-clause-gives : goal.returns-clause-gives
returns-clause-gives c = c.loop-page.invariant.gives

pub returns-clause-all : goal.returns-clause-all
returns-clause-all c = c.loop-page.invariant.all

pub returns-clause-rights : goal.returns-clause-rights
returns-clause-rights c page =
    let right = right_at c.loop-page.pages.rights c.args.who page in
    let agree : right ≡ right_of page c.loop-page.cache.held = c.loop-page.invariant.all page in
    agree ∙ none_writes c.loop-page.cache.held page (sym c.first_to_write.ensures.first ∙ c.in_default.is) ∙ sym (ap lowered_right agree) ∙ c.loop-page.invariant.rights page

pub returns-clause-cache : goal.returns-clause-cache
returns-clause-cache c =
    c.loop-page.invariant.rest
    ∙ ap (λ (l : List Held). record (c.args.cache.now) { held = l })
    (none_to_write c.loop-page.cache.held (sym c.first_to_write.ensures.first ∙ c.in_default.is) ∙ c.loop-page.invariant.kept)
