-- Ports are ended one after another, from a list that has them from the last to the first.
use Rattle.std.proofs.Common.{◌≡◌, ◌∙◌, sym, refl, ap, List, [], ◌∷◌, ◌++◌, append_assoc, append-nil, length, map, reverse, arith}
use Rattle.std.proofs.lemmas.List.{map-append, reverse-append, reverse-reverse}
use Rattle.rx_mailbox.specs.Boxes.{Outgoing, told, all_told}
use Rattle.rx_mailbox.specs.PortRows.{with_bye, EndsSome}
use Rattle.rx_mailbox.proofs.Told.{told-byes}

module _ {X : Type 0} where
  -- of all ports those before the ones that are left have ended, behind others
  pub record Ended (all left before now : List (Outgoing X)) : Type 0 where
    pub done : List (Outgoing X)
    pub parts : done ++ reverse left ≡ all
    pub ended : now ≡ before ++ map with_bye done

  -- none has ended yet
  pub Ended-none : (left before : List (Outgoing X)) → Ended (reverse left) left before before
  Ended-none left before = record { done = []; parts = refl; ended = sym (append-nil before) }

  -- the last of those left comes next
  parts-more : (done left : List (Outgoing X)) (port : Outgoing X) → done ++ reverse (left ++ port ∷ []) ≡ (done ++ port ∷ []) ++ reverse left
  parts-more done left port = ap (λ rest. done ++ rest) (reverse-append left (port ∷ [])) ∙ sym (append_assoc done (port ∷ []) (reverse left))

  -- one more has ended
  pub Ended-more : (all old left before now after : List (Outgoing X)) (port ended_port : Outgoing X)
      → old ≡ left ++ port ∷ [] → ended_port ≡ with_bye port → after ≡ now ++ ended_port ∷ [] → Ended all old before now → Ended all left before after
  Ended-more all old left before now after port ended_port popped ended_is pushed e = record {
    done = e.done ++ port ∷ [];
    parts = sym (parts-more e.done left port) ∙ ap (λ l. e.done ++ reverse l) (sym popped) ∙ e.parts;
    ended = pushed ∙ ap (λ (p : Outgoing X). now ++ p ∷ []) ended_is ∙ ap (λ l. l ++ with_bye port ∷ []) e.ended
        ∙ append_assoc before (map with_bye e.done) (with_bye port ∷ []) ∙ ap (λ l. before ++ l) (sym (map-append with_bye e.done (port ∷ [])));
  }

  -- all have ended
  pub Ended-all : (all start left before now : List (Outgoing X)) → start ≡ reverse all → left ≡ [] → Ended (reverse start) left before now → now ≡ before ++ map with_bye (all_told all)
  Ended-all all start left before now turned none e =
      let done : e.done ≡ all = sym (append-nil e.done) ∙ ap (λ l. e.done ++ reverse l) (sym none) ∙ e.parts ∙ ap reverse turned ∙ reverse-reverse all in
      e.ended ∙ ap (λ l. before ++ map with_bye l) done ∙ ap (λ l. before ++ l) (sym (told-byes all))

  -- the next one came back, and may hold less back
  pub Ended-stop : (all start old left back turned_back before now : List (Outgoing X)) (port same : Outgoing X)
      → start ≡ reverse all → old ≡ left ++ port ∷ [] → told same ≡ told port → back ≡ left ++ same ∷ [] → turned_back ≡ reverse back
      → Ended (reverse start) old before now → EndsSome (all_told all) (all_told turned_back) before now
  Ended-stop all start old left back turned_back before now port same turned popped same_is pushed again e =
      let back_is : turned_back ≡ same ∷ reverse left = again ∙ ap reverse pushed ∙ reverse-append left (same ∷ []) in
      let old_is : reverse old ≡ port ∷ reverse left = ap reverse popped ∙ reverse-append left (port ∷ []) in
      let alike : all_told turned_back ≡ all_told (reverse old) = ap all_told back_is ∙ ap (λ (p : Outgoing X). p ∷ all_told (reverse left)) same_is ∙ sym (ap all_told old_is) in
      record {
        done = all_told e.done;
        parts = ap (λ l. all_told e.done ++ l) alike ∙ sym (map-append told e.done (reverse old)) ∙ ap all_told (e.parts ∙ ap reverse turned ∙ reverse-reverse all);
        ended = e.ended ∙ ap (λ l. before ++ l) (sym (told-byes e.done));
        some = omega (arith, ap (λ l. length (all_told l)) back_is);
      }
