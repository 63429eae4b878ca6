-- What the inbox counts stays right as it takes a letter.
use Rattle.std.proofs.Common.{◌≡◌, ◌≢◌, ◌||◌, ◌<◌, ℕ, Bool, true, false, cond, List, [], ◌∷◌, ◌++◌, length, get_or, set, refl, sym, ap, ◌∙◌, subst, ⊎_elim, arith}
use Rattle.std.proofs.Math.Bool.{or-true, or-false}
use Rattle.std.proofs.Math.ListN.{length-set, length-replicate, replicate}
use Rattle.std.proofs.lemmas.Bool.{cases_eq}
use Rattle.std.proofs.lemmas.List.{get_or-replicate, get_or-set_same, get_or-set_other}
use Rattle.std.proofs.lemmas.List.Folds.{list_any-append}
use Rattle.rx_mailbox.specs.declared.letter.Letter.{Letter}
use Rattle.rx_mailbox.specs.declared.channel.rule.View.{View}
use Rattle.rx_mailbox.specs.declared.channel.rule.View.TheVariants.{Receives}
use Rattle.rx_mailbox.specs.Letters.{share, ends, has_bye}
use Rattle.rx_mailbox.specs.declared.letter.batch.Batch.{Batch}
use Rattle.rx_mailbox.specs.Passes.{made_of, taken_of, IsReader, TakesOne, IsTally}
use Rattle.rx_mailbox.proofs.Batches.{bye_share}
use Rattle.rx_mailbox.proofs.Letters.{share-own, share-other}

mark_here : (is_bye : Bool) (byes : List Bool) (port : ℕ) → port < length byes → get_or (cond is_bye (set byes port true) byes) port false ≡ (get_or byes port false || is_bye)
mark_here true byes port within = get_or-set_same byes port true false within ∙ sym (or-true (get_or byes port false))
mark_here false byes port within = sym (or-false (get_or byes port false))

mark_elsewhere : (is_bye : Bool) (byes : List Bool) (from port : ℕ) → from ≢ port → get_or (cond is_bye (set byes from true) byes) port false ≡ get_or byes port false
mark_elsewhere true byes from port apart = get_or-set_other byes from port true false (λ e. apart (sym e))
mark_elsewhere false byes from port apart = refl

mark_length : (is_bye : Bool) (byes : List Bool) (from : ℕ) → length (cond is_bye (set byes from true) byes) ≡ length byes
mark_length true byes from = length-set byes from true
mark_length false byes from = refl

module _ {B : Type 0} where
  -- whether a port's Bye came, after one more letter of the port
  byes_own : (byes : List Bool) (x : Letter B) (taken : List (Letter B)) → x.from < length byes → get_or byes x.from false ≡ has_bye (share x.from taken)
      → get_or (cond (ends x.post) (set byes x.from true) byes) x.from false ≡ has_bye (share x.from (taken ++ x ∷ []))
  byes_own byes x taken within is =
      mark_here (ends x.post) byes x.from within
      ∙ ap (λ b. b || ends x.post) is
      ∙ sym (ap has_bye (share-own x.from x taken refl) ∙ list_any-append (λ (y : Letter B). ends y.post) (share x.from taken) (x ∷ []) ∙ ap (λ b. has_bye (share x.from taken) || b) (or-false (ends x.post)))

  -- whether a port's Bye came, after one more letter
  byes_more : (byes : List Bool) (x : Letter B) (taken : List (Letter B)) (port : ℕ) → port < length byes → get_or byes port false ≡ has_bye (share port taken)
      → get_or (cond (ends x.post) (set byes x.from true) byes) port false ≡ has_bye (share port (taken ++ x ∷ []))
  byes_more byes x taken port within is = ⊎_elim
      (λ (same : x.from ≡ port). let P : ℕ → Type 0 = λ q. get_or (cond (ends x.post) (set byes x.from true) byes) q false ≡ has_bye (share q (taken ++ x ∷ [])) in
      subst P same (byes_own byes x taken (omega arith) (let Q : ℕ → Type 0 = λ q. get_or byes q false ≡ has_bye (share q taken) in subst Q (sym same) is)))
      (λ apart. mark_elsewhere (ends x.post) byes x.from port apart ∙ is ∙ sym (ap has_bye (share-other port x taken apart)))
      (cases_eq x.from port)

module _ {B : Type 0} where
  -- the tally after one more letter of the channel
  pub tally_more : (byes later : List Bool) (v w : View (Batch B)) (x : Letter (Batch B)) → TakesOne v x w → IsTally byes v
      → later ≡ cond (ends x.post) (set byes x.from true) byes → IsReader w × IsTally later w
  tally_more byes later v w x takes was later_is =
      let same_length : length byes ≡ made_of v = was.ports in
      subst (λ (u : View (Batch B)). IsReader u × IsTally later u) (sym takes.view_is) (
        record { view_is = refl },
        record {
          ports = ap length later_is ∙ mark_length (ends x.post) byes x.from ∙ was.ports;
          byes_are = λ port below. ap (λ l. get_or l port false) later_is
              ∙ byes_more byes x (taken_of v) port (omega arith) (was.byes_are port below ∙ bye_share port (taken_of v))
              ∙ sym (bye_share port (taken_of v ++ x ∷ []));
        },
      )

  -- the tally of a new inbox
  pub first_tally : (byes : List Bool) (ports : ℕ) (v : View (Batch B)) → byes ≡ replicate ports false → v ≡ Receives ports [] [] → IsReader v × IsTally byes v
  first_tally byes ports v byes_is is = subst (λ (u : View (Batch B)). IsReader u × IsTally byes u) (sym is) (
    record { view_is = refl },
    record {
      ports = ap length byes_is ∙ length-replicate ports false;
      byes_are = λ port below. ap (λ l. get_or l port false) byes_is ∙ get_or-replicate ports port false false below;
    },
  )
