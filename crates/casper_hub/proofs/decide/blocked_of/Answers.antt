use Rattle.std.proofs.Common.{◌≡◌, ◌+◌, ◌<◌, true, false, List, [], ◌∷◌, ◌++◌, length, length-append, drop, ap, ◌∙◌, arith}
use Rattle.std.specs.List.{list_any}
use Rattle.casper_words.specs.Crew.{clients}
use Rattle.casper_words.specs.declared.page.Want.{Want}
use Rattle.casper_hub.specs.Deciding.{stands_in_the_way, blocked_in}
use Rattle.casper_hub.proofs.Deciding.{read_within, kept_more, dropped_more, crew_some, crew_none}
use Rattle.casper_hub.proofs.decide.blocked_of.Goals as goal
use Rattle.casper_hub.proofs.decide.blocked_of.Goals.{then-count-gt0, else-count-gt0}

pub blockers_of_one-requires : goal.blockers_of_one-requires
blockers_of_one-requires c =
    let within : c.loop-want.want-index < length c.args.missing.now = omega arith in
    c.requires.range c.want-item.result (read_within c.args.missing.now c.loop-want.want-index c.want-item.result within c.want-item.is)

pub loop-want-preserved : goal.loop-want-preserved
loop-want-preserved c =
    let within : c.loop-want.want-index < length c.args.missing.now = omega arith in
    elim c.if-count-gt0.branch [
      | then-count-gt0 w ↦
          let more : c.if-count-gt0.blocked ≡ c.loop-want.blocked ++ c.want-item.result ∷ [] = cc in
          let blocks : list_any (stands_in_the_way c.args.pages.now c.args.clients.now c.args.who c.want-item.result) clients ≡ true =
          crew_some (stands_in_the_way c.args.pages.now c.args.clients.now c.args.who c.want-item.result) c.blockers_of_one.result c.blockers_of_one.ensures (omega arith) in
          record {
            so_far =
                ap (λ (l : List Want). l ++ blocked_in c.args.pages.now c.args.clients.now c.args.who (drop (c.loop-want.want-index + 1) c.args.missing.now)) more
                ∙ kept_more (λ (want : Want). list_any (stands_in_the_way c.args.pages.now c.args.clients.now c.args.who want) clients) c.loop-want.blocked
                c.args.missing.now c.loop-want.want-index c.want-item.result within c.want-item.is blocks
                ∙ c.loop-want.invariant.so_far;
            few = omega (arith, ap length more, length-append c.loop-want.blocked (c.want-item.result ∷ []), c.loop-want.invariant.few);
          }
      | else-count-gt0 w ↦
          let same : c.if-count-gt0.blocked ≡ c.loop-want.blocked = w.blocked-is in
          let free : list_any (stands_in_the_way c.args.pages.now c.args.clients.now c.args.who c.want-item.result) clients ≡ false =
          crew_none (stands_in_the_way c.args.pages.now c.args.clients.now c.args.who c.want-item.result) c.blockers_of_one.result c.blockers_of_one.ensures (omega arith) in
          record {
            so_far =
                ap (λ (l : List Want). l ++ blocked_in c.args.pages.now c.args.clients.now c.args.who (drop (c.loop-want.want-index + 1) c.args.missing.now)) same
                ∙ dropped_more (λ (want : Want). list_any (stands_in_the_way c.args.pages.now c.args.clients.now c.args.who want) clients) c.loop-want.blocked
                c.args.missing.now c.loop-want.want-index c.want-item.result within c.want-item.is free
                ∙ c.loop-want.invariant.so_far;
            few = omega (arith, ap length same, c.loop-want.invariant.few);
          }
    ]
