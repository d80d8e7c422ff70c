use Rattle.std.proofs.Common.{◌≡◌, ◌+◌, ◌<◌, List, length, drop, IsSome, ◌∙◌, sym, ap, subst, arith}
use Rattle.casper_words.specs.declared.page.Want.{Want}
use Rattle.casper_cache.specs.declared.held.Held.{Held}
use Rattle.casper_cache.specs.Holding.{right_of, front_of}
use Rattle.casper_cache.specs.Own.{Own}
use Rattle.casper_hub.specs.Installing.{all_fronted}
use Rattle.casper_hub.proofs.Installing.{fold_more, right_of-front}
use Rattle.casper_hub.proofs.install.bring_to_front.Goals as goal

pub loop-want-preserved : goal.loop-want-preserved
loop-want-preserved c =
    let within : c.loop-want.want-index < length c.args.wants.now = omega arith in
    let now : c.front.new.self.held ≡ front_of c.want-item.result.page c.loop-want.cache.held = ap (λ (own : Own). own.held) c.front.ensures.front in
    record {
      fronted =
          ap (λ (l : List Held). all_fronted l (drop (c.loop-want.want-index + 1) c.args.wants.now)) now
          ∙ fold_more (λ (pages : List Held) (want : Want). front_of want.page pages) c.loop-want.cache.held c.args.wants.now c.loop-want.want-index c.want-item.result within c.want-item.is
          ∙ c.loop-want.invariant.fronted;
      rest = c.front.ensures.front
          ∙ ap (λ (l : List Held). record (c.loop-want.cache) { held = l }) (sym now)
          ∙ ap (λ (own : Own). record own { held = c.front.new.self.held }) c.loop-want.invariant.rest;
      held = λ want inside.
          subst (λ (l : List Held). IsSome (right_of want.page l)) (sym now)
          (right_of-front c.want-item.result.page want.page c.loop-want.cache.held (c.loop-want.invariant.held want inside));
    }
