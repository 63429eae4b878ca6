use Rattle.std.proofs.Common.{◌≡◌, ◌<◌, ◌∙◌, ◌∷◌, ◌++◌, ℕ, List, [], Option, None, Some, length, refl, sym, subst, ap, append-nil, arith}
use Rattle.std.specs.Io.KnownBytes.{Consumes, Keeps}
use Rattle.rx_exchange.specs.Coming.{Brings, IsPartly, StaysPartly}
use Rattle.rx_exchange.proofs.came.come.Goals as goal

-- a read that failed gave nothing
keeps-consumes : (old new : Option (List ℕ)) → Keeps old new → Consumes old new []
keeps-consumes None new keeps = tt
keeps-consumes (Some xs) None keeps = absurd keeps
keeps-consumes (Some xs) (Some ys) keeps = sym keeps

no_length : (bytes : List ℕ) → length bytes ≡ 0 → bytes ≡ []
no_length [] none = refl
no_length (byte ∷ bytes) none = absurd (omega (arith, none))

-- bytes that are the same as before
stays : (before after : List ℕ) → after ≡ before → length before < 8192 → StaysPartly before after
stays before after same few = ((λ partly. subst IsPartly (sym same) partly), omega (arith, ap length same))

failed : (old new : Option (List ℕ)) (before after : List ℕ) (says : Type 0) → Keeps old new → after ≡ before → says → Brings old new before after says
failed old new before after says keeps same said = record {
  read = [];
  consumed = keeps-consumes old new keeps;
  after_is = same ∙ sym (append-nil before);
  said = said;
}

pub returns-in-Ok-eq0 : goal.returns-in-Ok-eq0
returns-in-Ok-eq0 g c =
    let (read, consumed, after, size, end) = c.in-Ok-eq0.ensures in
    let none = no_length read (size ∙ c.in-Ok-eq0.field-0-test) in
    let same : c.read_from.new.self ≡ c.args.head.now = after ∙ ap (λ l. c.args.head.now ++ l) none ∙ append-nil c.args.head.now in
    record { read = read; consumed = consumed; after_is = after; said = (stays _ _ same c.requires, end c.in-Ok-eq0.field-0-test) }

pub returns-in-Interrupted : goal.returns-in-Interrupted
returns-in-Interrupted g c =
    let (keeps, same) = c.in-Err.ensures in
    failed _ _ _ _ _ keeps same (stays _ _ same c.requires)

pub returns-in_default : goal.returns-in_default
returns-in_default g c =
    let (keeps, same) = c.in-Err.ensures in
    failed _ _ _ _ _ keeps same (stays _ _ same c.requires, tt)
