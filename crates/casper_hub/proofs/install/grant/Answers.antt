use Rattle.std.proofs.Common.{◌≡◌, ◌+◌, ◌<◌, ◌++◌, ℕ, List, Option, Some, Bool, true, false, cond, length, drop, ◌∙◌, sym, ap, subst, arith}
use Rattle.casper_words.specs.Crew.{IsClient}
use Rattle.casper_words.specs.declared.page.Right.{Right}
use Rattle.casper_trail.specs.declared.item.Item.{Item}
use Rattle.casper_trail.specs.TrailView.{entry_count}
use Rattle.casper_trail.specs.Parts.{as_items}
use Rattle.casper_model.specs.Acquire.{touches_by}
use Rattle.casper_model.specs.Held.{is_to_write}
use Rattle.casper_dir.specs.Holding.{raised as raised_right}
use Rattle.casper_dir.specs.Rights.{right_at}
use Rattle.casper_cache.specs.declared.held.Held.{Held}
use Rattle.casper_cache.specs.Holding.{raised}
use Rattle.casper_cache.specs.Own.{Own}
use Rattle.casper_hub.specs.Installing.{all_granted, all_raised, granted_right, raised_for}
use Rattle.casper_hub.proofs.Deciding.{read_within}
use Rattle.casper_hub.proofs.Giving.{changed_for_others}
use Rattle.casper_hub.proofs.Installing.{RaisedSo, raised_so, fold_more, touched_more, entry_count-touched, conflicts_kept, granted_one}
use Rattle.casper_hub.proofs.install.grant.Goals as goal
use Rattle.casper_hub.proofs.install.grant.Goals.{then-eq, else-eq}

pub grant-requires-clause-page : goal.grant-requires-clause-page
grant-requires-clause-page c =
    let within : c.loop-want.want-index < length c.args.missing.now = omega arith in
    subst (λ (n : ℕ). c.want-item.result.page < n) (sym c.loop-want.invariant.count)
    (c.requires.pages c.want-item.result (read_within c.args.missing.now c.loop-want.want-index c.want-item.result within c.want-item.is))

pub grant-requires-clause-free : goal.grant-requires-clause-free
grant-requires-clause-free c =
    let within : c.loop-want.want-index < length c.args.missing.now = omega arith in
    conflicts_kept c.args.pages.now.rights c.loop-want.pages.rights c.want-item.result.page c.args.who c.want-item.result.right c.loop-want.invariant.others
    ∙ c.requires.free c.want-item.result (read_within c.args.missing.now c.loop-want.want-index c.want-item.result within c.want-item.is)

pub loop-want-preserved : goal.loop-want-preserved
loop-want-preserved c =
    let within : c.loop-want.want-index < length c.args.missing.now = omega arith in
    let client : IsClient c.args.who = (omega arith, omega arith) in
    let right : Option Right = Some (raised_right (right_at c.loop-want.pages.rights c.args.who c.want-item.result.page) c.want-item.result.right) in
    let now : RaisedSo c.loop-want.cache c.if-eq.cache c.want-item.result =
    elim c.if-eq.branch [
      | then-eq w ↦
          let writes : is_to_write c.want-item.result.right ≡ true = grind (arith, w.if-eq.ensures, c.eq.ensures, w.if-eq.true) in
          raised_so c.loop-want.cache c.if-eq.cache c.want-item.result
          (w.cache-is ∙ w.raise.ensures.raised
          ∙ ap (λ (b : Bool). record (c.loop-want.cache) { held = cond b (raised c.want-item.result.page c.loop-want.cache.held) c.loop-want.cache.held }) (sym writes))
      | else-eq w ↦
          let reads : is_to_write c.want-item.result.right ≡ false = grind (arith, w.if-eq.ensures, c.eq.ensures, w.if-eq.false) in
          raised_so c.loop-want.cache c.if-eq.cache c.want-item.result
          (w.cache-is ∙ ap (λ (b : Bool). record (c.loop-want.cache) { held = cond b (raised c.want-item.result.page c.loop-want.cache.held) c.loop-want.cache.held }) (sym reads))
    ] in
    record {
      items =
          ap (λ (l : List Item). l ++ as_items (touches_by c.args.who (drop (c.loop-want.want-index + 1) c.args.missing.now))) c.touch.ensures.items
          ∙ touched_more c.loop-want.trail.items c.args.who c.args.missing.now c.loop-want.want-index c.want-item.result within c.want-item.is
          ∙ c.loop-want.invariant.items;
      limit = c.touch.ensures.limit ∙ c.loop-want.invariant.limit;
      room = omega (arith, c.touch.ensures.room, c.loop-want.invariant.room);
      entries = omega (arith, ap entry_count c.touch.ensures.items, entry_count-touched c.loop-want.trail.items c.args.who c.want-item.result.page, c.loop-want.invariant.entries);
      count = c.grant.ensures.count ∙ c.loop-want.invariant.count;
      rights = λ page.
          ap (λ (o : Option Right). all_granted page o (drop (c.loop-want.want-index + 1) c.args.missing.now))
          (granted_one c.loop-want.pages.rights c.grant.new.self.rights c.args.who c.want-item.result page client c.grant.ensures.rights)
          ∙ fold_more (granted_right page) (right_at c.loop-want.pages.rights c.args.who page) c.args.missing.now c.loop-want.want-index c.want-item.result within c.want-item.is
          ∙ c.loop-want.invariant.rights page;
      others = λ other page is differ.
          changed_for_others c.loop-want.pages.rights c.grant.new.self.rights c.args.who c.want-item.result.page right c.grant.ensures.rights other page is differ
          ∙ c.loop-want.invariant.others other page is differ;
      holders = λ all. c.grant.ensures.holders;
      frames = c.grant.ensures.frames ∙ c.loop-want.invariant.frames;
      raises =
          ap (λ (l : List Held). all_raised l (drop (c.loop-want.want-index + 1) c.args.missing.now)) now.held_is
          ∙ fold_more raised_for c.loop-want.cache.held c.args.missing.now c.loop-want.want-index c.want-item.result within c.want-item.is
          ∙ c.loop-want.invariant.raises;
      rest = now.rest ∙ ap (λ (own : Own). record own { held = c.if-eq.cache.held }) c.loop-want.invariant.rest;
      held = λ want inside. now.holds want.page (c.loop-want.invariant.held want inside);
    }
