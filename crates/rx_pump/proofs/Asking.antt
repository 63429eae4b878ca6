-- What ports put that are told no reply, each letter as those for which it stands.
use Rattle.std.proofs.Common.{◌≡◌, ◌∙◌, sym, refl, ap, subst, ℕ, ◌<◌, ◌≤◌, ◌==◌, if◌then◌else◌, List, [], ◌∷◌, ◌++◌, append-nil, length, map, get_or, Some, None, slice_get, inl, inr, arith}
use Rattle.std.proofs.Math.ListN.{set, length-set}
use Rattle.std.proofs.lemmas.Bool.Decides.{eqb_tells}
use Rattle.std.proofs.lemmas.List.{length-map, map-append, map-set}
use Rattle.std.proofs.lemmas.Option.{slice_get_read, slice_get_past, slice_get-map}
use Rattle.std.proofs.lemmas.List.Elements.{All-head, All-tail}
use Rattle.std.specs.List.{All}
use Rattle.std.specs.Option.{option_map}
use Rattle.rx_mailbox.specs.declared.letter.Post.TheVariants.{Body, Bye}
use Rattle.rx_mailbox.specs.declared.letter.Letter.{Letter}
use Rattle.rx_mailbox.specs.Boxes.{Outgoing, told, all_told, with_post, with_more}
use Rattle.rx_mailbox.specs.Letters.{letter, posts}
use Rattle.rx_mailbox.specs.PortRows.{IsFresh, Puts, with_bye, EndsSome}
use Rattle.rx_mailbox.proofs.Told.{told-at, told-fresh, told-length, told-set}
use Rattle.rx_pump.specs.declared.call.Call.{Call}
use Rattle.rx_pump.specs.Opened.{all_opened, opened, opened_letter, opened_port, opened_ports}
use Rattle.rx_pump.specs.Pumps.{AreSame, port_place}
use Rattle.rx_pump.proofs.Opening.{opened-bye, opened-more}
use Rattle.rx_pump.proofs.Placing.{slice_get-set_same, slice_get-set_other, option_map-same}

module _ {X : Type 0} where
  with_more-nil : (port : Outgoing X) → with_more [] port ≡ port
  with_more-nil port = ap (λ (own : List (Letter X)). record port { own = own }) (append-nil port.own)

  -- one port puts several bodies
  pub Puts-several : (ports : List (Outgoing X)) (place : ℕ) (port : Outgoing X) (xs : List X)
      → slice_get ports place ≡ Some port → Puts (λ d. if place == d then xs else []) ports (set ports place (with_more xs port))
  Puts-several ports place port xs is = record {
    count = length-set ports place _;
    at = λ d. elim (eqb_tells place d) [
      | inl (test, same) ↦
          rw test (
          subst (λ k. slice_get (set ports place (with_more xs port)) k ≡ option_map (with_more xs) (slice_get ports k)) same
          (slice_get-set_same ports place port _ is ∙ sym (ap (option_map (with_more xs)) is)))
      | inr (test, other) ↦
          rw test (slice_get-set_other ports place d _ other ∙ option_map-same (with_more []) (slice_get ports d) with_more-nil)
    ];
  }

  -- there is no port at this place
  pub Puts-nowhere : (ports : List (Outgoing X)) (place : ℕ) (xs : List X) → length ports ≤ place → Puts (λ d. if place == d then xs else []) ports ports
  Puts-nowhere ports place xs past =
      let is : slice_get ports place ≡ None = slice_get_past ports place past in
      record {
        count = refl;
        at = λ d. elim (eqb_tells place d) [
          | inl (test, same) ↦ rw test (subst (λ k. slice_get ports k ≡ option_map (with_more xs) (slice_get ports k)) same (is ∙ sym (ap (option_map (with_more xs)) is)))
          | inr (test, other) ↦ rw test (option_map-same (with_more []) (slice_get ports d) with_more-nil)
        ];
      }

module _ {S : Type 0} where
  -- there are as many
  pub opened-length : (ports : List (Outgoing (Call S))) → length (all_opened ports) ≡ length ports
  opened-length ports = length-map (all_told ports) opened_port ∙ told-length ports

  -- a port that put nothing
  opened-new : (port : Outgoing (Call S)) → IsFresh port → opened_port port ≡ port
  opened-new port fresh = ap (λ (own : List (Letter (Call S))). record port { own = own }) (ap (opened 0) fresh.0 ∙ sym fresh.0)

  opened-fresh : (ports : List (Outgoing (Call S))) → All IsFresh ports → opened_ports ports ≡ ports
  opened-fresh [] fresh = refl
  opened-fresh (port ∷ ports) fresh =
      ap (λ (p : Outgoing (Call S)). p ∷ opened_ports ports) (opened-new port (All-head IsFresh port ports fresh))
      ∙ ap (λ (l : List (Outgoing (Call S))). port ∷ l) (opened-fresh ports (All-tail IsFresh port ports fresh))

  pub all_opened-fresh : (ports : List (Outgoing (Call S))) → All IsFresh ports → all_opened ports ≡ ports
  all_opened-fresh ports fresh = ap opened_ports (told-fresh ports fresh) ∙ opened-fresh ports fresh

  -- they are the same ports
  pub AreSame-opened : (ports : List (Outgoing (Call S))) → AreSame ports (opened_ports ports)
  AreSame-opened [] = refl
  AreSame-opened (port ∷ ports) = ap (λ places. port_place port ∷ places) (AreSame-opened ports)

  -- a letter more stands for these calls
  opened-post : (port : Outgoing (Call S)) (call : Call S) (calls : List (Call S)) → opened_letter 0 (letter port.number (Body call)) ≡ posts port.number calls
      → opened_port (with_post port (Body call)) ≡ with_more calls (opened_port (told port))
  opened-post port call calls stands_for =
      ap (λ (own : List (Letter (Call S))). record (told port) { own = own })
      (opened-more 0 port.own (letter port.number (Body call)) ∙ ap (λ l. opened 0 port.own ++ l) stands_for)

  -- the port at a place puts such a letter
  pub Puts-opened : (ports : List (Outgoing (Call S))) (place : ℕ) (port after : Outgoing (Call S)) (call : Call S) (calls : List (Call S))
      → place < length ports → port ≡ get_or ports place port → told after ≡ with_post port (Body call)
      → opened_letter 0 (letter port.number (Body call)) ≡ posts port.number calls
      → Puts (λ d. if place == d then calls else []) (all_opened ports) (all_opened (set ports place after))
  Puts-opened ports place port after call calls within port_is after_is stands_for =
      let there : slice_get (all_opened ports) place ≡ Some (opened_port (told port)) =
      slice_get-map opened_port (all_told ports) place
      ∙ ap (option_map opened_port) (slice_get_read (all_told ports) (length (all_told ports)) place (told port) refl (omega (arith, within, told-length ports)) (told-at ports place port within port_is)) in
      let now : all_opened (set ports place after) ≡ set (all_opened ports) place (with_more calls (opened_port (told port))) =
      ap opened_ports (told-set ports place after) ∙ map-set opened_port (all_told ports) place (told after)
      ∙ ap (set (all_opened ports) place) (ap opened_port after_is ∙ opened-post port call calls stands_for) in
      subst (λ (l : List (Outgoing (Call S))). Puts (λ d. if place == d then calls else []) (all_opened ports) l) (sym now)
      (Puts-several (all_opened ports) place (opened_port (told port)) calls there)

  -- ports that end
  opened-with_bye : (port : Outgoing (Call S)) → opened_port (with_bye port) ≡ with_bye (opened_port port)
  opened-with_bye port =
      ap (λ (own : List (Letter (Call S))). record (told port) { own = own })
      (opened-more 0 port.own (letter port.number Bye) ∙ ap (λ l. opened 0 port.own ++ l) (opened-bye 0 port.number))

  opened-byes : (ports : List (Outgoing (Call S))) → opened_ports (map with_bye ports) ≡ map with_bye (opened_ports ports)
  opened-byes [] = refl
  opened-byes (port ∷ ports) =
      ap (λ (p : Outgoing (Call S)). p ∷ opened_ports (map with_bye ports)) (opened-with_bye port)
      ∙ ap (λ (l : List (Outgoing (Call S))). with_bye (opened_port port) ∷ l) (opened-byes ports)

  -- all ended behind others
  pub opened-ended : (before after ports : List (Outgoing (Call S))) → after ≡ before ++ map with_bye ports → opened_ports after ≡ opened_ports before ++ map with_bye (opened_ports ports)
  opened-ended before after ports is =
      ap opened_ports is ∙ map-append opened_port before (map with_bye ports) ∙ ap (λ (l : List (Outgoing (Call S))). opened_ports before ++ l) (opened-byes ports)

  -- some did
  pub opened-some : (ports left before after : List (Outgoing (Call S))) → EndsSome ports left before after
      → EndsSome (opened_ports ports) (opened_ports left) (opened_ports before) (opened_ports after)
  opened-some ports left before after ends = record {
    done = opened_ports ends.done;
    parts = sym (map-append opened_port ends.done left) ∙ ap opened_ports ends.parts;
    ended = opened-ended before after ends.done ends.ended;
    some = omega (arith, ends.some, length-map left opened_port);
  }
