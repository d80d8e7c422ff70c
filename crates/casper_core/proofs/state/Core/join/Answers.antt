use Rattle.std.proofs.Common.{◌≡◌, ◌≢◌, [], sym, ap₂, ◌∙◌, subst}
use Rattle.std.specs.Prelude.{Some}
use Rattle.casper_words.specs.Crew.{IsClient}
use Rattle.casper_space.specs.declared.answer.Answer.TheVariants as answer
use Rattle.casper_model.specs.declared.event.Event.TheVariants as event
use Rattle.casper_model.specs.declared.reply.JoinRefusal.TheVariants as refusal
use Rattle.casper_model.specs.Answers.{of_join}
use Rattle.casper_cache.specs.Own as cache
use Rattle.casper_hub.specs.HubView.{cap_in}
use Rattle.casper_core.specs.CoreView.{CoreView, told_by}
use Rattle.casper_core.specs.Placing.{placed}
use Rattle.casper_core.specs.Shaped.{StepsInShape}
use Rattle.casper_core.specs.Sound.{IsSound}
use Rattle.casper_core.specs.Stepping.{Steps}
use Rattle.casper_core.proofs.CoreTurns.{if_ok}
use Rattle.casper_core.proofs.Joins.{join_of, join_refused, refused_made, sound_join, join_steps, join_made}
use Rattle.casper_core.specs.Loading.{OnlyReads}
use Rattle.casper_core.proofs.VaultReads.{reads_nothing}
use Rattle.casper_core.proofs.state.Core.join.Goals as goal

pub returns-in-Err-clause-step : goal.returns-in-Err-clause-step
returns-in-Err-clause-step g c = λ told.
    let core : CoreView g.row.V.Denot = record {
      hub = c.self.inside.hub;
      caches = c.self.inside.caches.items;
      capacity = c.self.inside.capacity;
      unfinished = c.self.inside.unfinished;
      calls = c.self.inside.calls;
      vault = c.self.inside.vault;
      size = g.V.Vault.size c.self.inside.vault;
      told = told_by g.V.Vault.image g.V.Vault.version g.V.Vault.room g.V.Vault.doubt c.self.inside.vault;
    } in
    let sound : IsSound core = c.self.invariant in
    let client : IsClient c.args.who = subst IsClient c.number-place.ensures.number (c.number-place.ensures.least, c.number-place.ensures.most) in
    if_ok c.answer_of_join.result (λ answer. (answer ≡ of_join (Some c.in-Err.refusal)) × (c.in-Err.refusal ≢ refusal.Memory))
    (λ answer. Steps (event.Join c.args.who) answer c.args.self.now (record core { hub = c.join.new.self })) c.answer_of_join.ensures.answer
    (λ answer is.
    subst (λ one. Steps (event.Join c.args.who) answer one (record core { hub = c.join.new.self })) c.self.view_is
    (subst (λ one. Steps (event.Join c.args.who) one core (record core { hub = c.join.new.self })) (sym is.0)
    (join_refused core c.args.who client sound c.in-Err.refusal c.join.new.self c.in-Err.ensures.refused
    (join_of c.args.who c.in-Err.refusal core.hub c.join.new.self is.1 c.in-Err.ensures.turn))))

pub returns-in-Err-clause-shape : goal.returns-in-Err-clause-shape
returns-in-Err-clause-shape g c =
    let core : CoreView g.row.V.Denot = record {
      hub = c.self.inside.hub;
      caches = c.self.inside.caches.items;
      capacity = c.self.inside.capacity;
      unfinished = c.self.inside.unfinished;
      calls = c.self.inside.calls;
      vault = c.self.inside.vault;
      size = g.V.Vault.size c.self.inside.vault;
      told = told_by g.V.Vault.image g.V.Vault.version g.V.Vault.room g.V.Vault.doubt c.self.inside.vault;
    } in
    let sound : IsSound core = c.self.invariant in
    let client : IsClient c.args.who = subst IsClient c.number-place.ensures.number (c.number-place.ensures.least, c.number-place.ensures.most) in
    if_ok c.answer_of_join.result (λ answer. (answer ≡ of_join (Some c.in-Err.refusal)) × (c.in-Err.refusal ≢ refusal.Memory))
    (λ answer. StepsInShape (event.Join c.args.who) answer c.args.self.now (record core { hub = c.join.new.self })) c.answer_of_join.ensures.answer
    (λ answer is.
    subst (λ one. StepsInShape (event.Join c.args.who) answer one (record core { hub = c.join.new.self })) c.self.view_is
    (subst (λ one. StepsInShape (event.Join c.args.who) one core (record core { hub = c.join.new.self })) (sym is.0)
    (refused_made core c.args.who client sound c.in-Err.refusal c.join.new.self c.in-Err.ensures.refused
    (join_of c.args.who c.in-Err.refusal core.hub c.join.new.self is.1 c.in-Err.ensures.turn))))

pub invariant_of-self-2 : goal.invariant_of-self-2
invariant_of-self-2 g c =
    let core : CoreView g.row.V.Denot = record {
      hub = c.self.inside.hub;
      caches = c.self.inside.caches.items;
      capacity = c.self.inside.capacity;
      unfinished = c.self.inside.unfinished;
      calls = c.self.inside.calls;
      vault = c.self.inside.vault;
      size = g.V.Vault.size c.self.inside.vault;
      told = told_by g.V.Vault.image g.V.Vault.version g.V.Vault.room g.V.Vault.doubt c.self.inside.vault;
    } in
    let sound : IsSound core = c.self.invariant in
    let client : IsClient c.args.who = subst IsClient c.number-place.ensures.number (c.number-place.ensures.least, c.number-place.ensures.most) in
    let own_is : c.allow.new.self ≡ record { client = c.args.who; capacity = core.capacity; held = []; pending = []; cap = cap_in c.join.new.self c.args.who } =
    c.allow.ensures.allowed ∙ ap₂ (λ (own : cache.Own) count. record own { cap = count }) c.in_ok-cache.ensures.value c.cap.ensures in
    sound_join core c.args.who client sound c.join.new.self c.allow.new.self own_is c.allow.ensures.sound c.in_default.field-0 c.in_default.ensures.turn c.in_default.ensures.live c.in_default.ensures.owned
    c.in_default.ensures.others c.in_default.ensures.still c.in_default.ensures.sound c.number-place.result c.number-place.ensures.number

pub returns-clause-step : goal.returns-clause-step
returns-clause-step g c = λ told.
    let core : CoreView g.row.V.Denot = record {
      hub = c.self.inside.hub;
      caches = c.self.inside.caches.items;
      capacity = c.self.inside.capacity;
      unfinished = c.self.inside.unfinished;
      calls = c.self.inside.calls;
      vault = c.self.inside.vault;
      size = g.V.Vault.size c.self.inside.vault;
      told = told_by g.V.Vault.image g.V.Vault.version g.V.Vault.room g.V.Vault.doubt c.self.inside.vault;
    } in
    let sound : IsSound core = c.self.invariant in
    let client : IsClient c.args.who = subst IsClient c.number-place.ensures.number (c.number-place.ensures.least, c.number-place.ensures.most) in
    let own_is : c.allow.new.self ≡ record { client = c.args.who; capacity = core.capacity; held = []; pending = []; cap = cap_in c.join.new.self c.args.who } =
    c.allow.ensures.allowed ∙ ap₂ (λ (own : cache.Own) count. record own { cap = count }) c.in_ok-cache.ensures.value c.cap.ensures in
    subst (λ one. Steps (event.Join c.args.who) answer.Joined one (placed core c.number-place.result c.join.new.self (Some c.allow.new.self) core.calls core.vault core.size core.told)) c.self.view_is
    (join_steps core c.args.who client sound c.join.new.self c.allow.new.self own_is c.allow.ensures.sound c.in_default.field-0 c.in_default.ensures.turn c.in_default.ensures.live c.in_default.ensures.owned
    c.in_default.ensures.others c.in_default.ensures.still c.in_default.ensures.sound c.in_default.ensures.frames c.number-place.result c.number-place.ensures.number)

pub returns-clause-shape : goal.returns-clause-shape
returns-clause-shape g c =
    let core : CoreView g.row.V.Denot = record {
      hub = c.self.inside.hub;
      caches = c.self.inside.caches.items;
      capacity = c.self.inside.capacity;
      unfinished = c.self.inside.unfinished;
      calls = c.self.inside.calls;
      vault = c.self.inside.vault;
      size = g.V.Vault.size c.self.inside.vault;
      told = told_by g.V.Vault.image g.V.Vault.version g.V.Vault.room g.V.Vault.doubt c.self.inside.vault;
    } in
    let sound : IsSound core = c.self.invariant in
    let client : IsClient c.args.who = subst IsClient c.number-place.ensures.number (c.number-place.ensures.least, c.number-place.ensures.most) in
    let own_is : c.allow.new.self ≡ record { client = c.args.who; capacity = core.capacity; held = []; pending = []; cap = cap_in c.join.new.self c.args.who } =
    c.allow.ensures.allowed ∙ ap₂ (λ (own : cache.Own) count. record own { cap = count }) c.in_ok-cache.ensures.value c.cap.ensures in
    subst (λ one. StepsInShape (event.Join c.args.who) answer.Joined one (placed core c.number-place.result c.join.new.self (Some c.allow.new.self) core.calls core.vault core.size core.told)) c.self.view_is
    (join_made core c.args.who client sound c.join.new.self c.allow.new.self own_is c.allow.ensures.sound c.in_default.field-0 c.in_default.ensures.turn c.in_default.ensures.live c.in_default.ensures.owned
    c.in_default.ensures.others c.in_default.ensures.still c.in_default.ensures.sound c.number-place.result c.number-place.ensures.number)

pub returns-clause-sound : goal.returns-clause-sound
returns-clause-sound g c =
    let core : CoreView g.row.V.Denot = record {
      hub = c.self.inside.hub;
      caches = c.self.inside.caches.items;
      capacity = c.self.inside.capacity;
      unfinished = c.self.inside.unfinished;
      calls = c.self.inside.calls;
      vault = c.self.inside.vault;
      size = g.V.Vault.size c.self.inside.vault;
      told = told_by g.V.Vault.image g.V.Vault.version g.V.Vault.room g.V.Vault.doubt c.self.inside.vault;
    } in
    let sound : IsSound core = c.self.invariant in
    let client : IsClient c.args.who = subst IsClient c.number-place.ensures.number (c.number-place.ensures.least, c.number-place.ensures.most) in
    let own_is : c.allow.new.self ≡ record { client = c.args.who; capacity = core.capacity; held = []; pending = []; cap = cap_in c.join.new.self c.args.who } =
    c.allow.ensures.allowed ∙ ap₂ (λ (own : cache.Own) count. record own { cap = count }) c.in_ok-cache.ensures.value c.cap.ensures in
    sound_join core c.args.who client sound c.join.new.self c.allow.new.self own_is c.allow.ensures.sound c.in_default.field-0 c.in_default.ensures.turn c.in_default.ensures.live c.in_default.ensures.owned
    c.in_default.ensures.others c.in_default.ensures.still c.in_default.ensures.sound c.number-place.result c.number-place.ensures.number

pub returns-in-Err-clause-vault : goal.returns-in-Err-clause-vault
returns-in-Err-clause-vault g c =
    subst (λ (from : CoreView g.row.V.Denot). OnlyReads g.V.Vault.tells g.V.Vault.size g.V.Vault.image g.V.Vault.version g.V.Vault.room g.V.Vault.doubt g.V.Vault.images_now g.V.Vault.moment g.V.Vault.images_since g.V.Vault.faults g.V.Vault.leads_to from.vault c.self.inside.vault) c.self.view_is
    (reads_nothing g.V.Vault.tells g.V.Vault.size g.V.Vault.image g.V.Vault.version g.V.Vault.room g.V.Vault.doubt g.V.Vault.images_now g.V.Vault.moment g.V.Vault.images_since g.V.Vault.faults g.V.Vault.leads_to
    g.met.V.Vault.now_counts g.met.V.Vault.only_now g.met.V.Vault.earlier_counts g.met.V.Vault.leads_to_itself g.met.V.Vault.leads_on c.self.inside.vault)

pub returns-clause-vault : goal.returns-clause-vault
returns-clause-vault g c =
    subst (λ (from : CoreView g.row.V.Denot). OnlyReads g.V.Vault.tells g.V.Vault.size g.V.Vault.image g.V.Vault.version g.V.Vault.room g.V.Vault.doubt g.V.Vault.images_now g.V.Vault.moment g.V.Vault.images_since g.V.Vault.faults g.V.Vault.leads_to from.vault c.self.inside.vault) c.self.view_is
    (reads_nothing g.V.Vault.tells g.V.Vault.size g.V.Vault.image g.V.Vault.version g.V.Vault.room g.V.Vault.doubt g.V.Vault.images_now g.V.Vault.moment g.V.Vault.images_since g.V.Vault.faults g.V.Vault.leads_to
    g.met.V.Vault.now_counts g.met.V.Vault.only_now g.met.V.Vault.earlier_counts g.met.V.Vault.leads_to_itself g.met.V.Vault.leads_on c.self.inside.vault)
