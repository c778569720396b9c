-- Calls one after the other, from an opening.
use Rattle.std.proofs.Common.{◌≡◌, ℕ, ◌+◌, ◌<◌, ◌≤◌, List, [], ◌∷◌, ◌++◌, map, reverse, length, get_or, take, vec_items, sym, ap, ◌∙◌, subst}
use Rattle.std.proofs.lemmas.List.{take_more, take_all, reverse-append}
use Rattle.domain.specs.Meaning.{Meaning}
use Rattle.release.specs.declared.Line.{Line}
use Rattle.release.specs.declared.Settings.{Settings}
use Rattle.rules.specs.Runs.{History, calls}
use Rattle.stream.specs.declared.replays.Call.{Call}
use Rattle.stream.specs.declared.replays.Replay.{Replay}
use Rattle.stream.specs.declared.stream.Stream.{Stream}
use Rattle.stream.specs.Replays.{call_of, told, Made, Replayed}
use Rattle.stream.specs.Views.{view, Leads}
use Rattle.stream.specs.Within.{SameTerms}
use Rattle.rules.specs.Promise.{Promise}
use Rattle.stream.proofs.Steps.{promise}

-- after the first i calls
pub record Plays {D : Type 0} (m : Meaning) (g : Settings) (cs : List Call) (room i : ℕ) (s : Stream D) (lines : List Line) : Type 0 where
  pub history : History
  pub asked : calls history ≡ map (call_of room) (reverse (take i cs))
  pub shown : lines ≡ told history
  pub leads : Leads m history s
  pub settings : s.settings ≡ g

module _ {D : Type 0} (m : Meaning) (g : Settings) (cs : List Call) (room : ℕ) where
  pub plays_more : (i : ℕ) (d : Call) (m' : Meaning) (s t : Stream D) (lines list : List Line) (n : ℕ) → i < length cs → m' ≡ m → SameTerms s t → (p : Plays m g cs room i s lines)
      → ((h : History) → Leads m' h s → Made m' h (call_of room (get_or cs i d)) list n t) → Plays m g cs room (i + 1) t (lines ++ take n list)
  plays_more i d m' s t lines list n l same terms p f =
      let h = p.history in
      let made : Made m h (call_of room (get_or cs i d)) list n t = subst (λ x. Leads x h s → Made x h (call_of room (get_or cs i d)) list n t) same (f h) p.leads in
      record {
        history = made.exchange ∷ h;
        asked = ap (λ x. x ∷ calls h) made.asked ∙ ap (λ xs. call_of room (get_or cs i d) ∷ xs) p.asked
            ∙ sym (ap (λ xs. map (call_of room) (reverse xs)) (take_more cs i d l) ∙ ap (map (call_of room)) (reverse-append (take i cs) (get_or cs i d ∷ [])));
        shown = ap (λ xs. xs ++ take n list) p.shown ∙ ap (λ xs. told h ++ xs) (sym made.lines);
        leads = made.leads;
        settings = terms.settings ∙ p.settings;
      }

  pub plays_all : (i : ℕ) (r : Replay D) → length cs ≤ i → Plays m g cs room i r.stream (vec_items r.lines) → Replayed m g cs room r
  plays_all i r l p = record {
    history = p.history;
    asked = p.asked ∙ ap (λ xs. map (call_of room) (reverse xs)) (take_all i cs l);
    lines = p.shown;
    leads = p.leads;
    promise = subst (λ x. Promise m x p.history (view r.stream)) p.settings (promise p.leads.run);
  }
