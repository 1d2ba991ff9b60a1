-- The line of an event is read as that event.
use Rattle.std.proofs.Common.{◌≡◌, ℕ, ◌≤◌, false, ◌||◌, List, [], ◌∷◌, length, Some, sym, ap, subst, ◌∙◌, arith}
use Rattle.std.specs.Prelude.{IfOk, Result, Ok, Err, nat_eq}
use Rattle.std.proofs.lemmas.Bool.{le-ltb, ne_eqb}
use Rattle.ec_wire.specs.Words.{spaced}
use Rattle.ec_wire.specs.declared.event.Event.{Event}
use Rattle.ec_script.specs.Lines.{event_of, is_passed, line_event, most_line, some_event}
use Rattle.ec_script.specs.Orders.{brick_event, client_event, message_event}
use Rattle.ec_script.specs.Printed.{IsEvent, event_text, event_words}
use Rattle.ec_script.specs.Words.{words, without_return}
use Rattle.ec_script.proofs.PrintedEvents.{orders_event, words_of_event}
use Rattle.ec_script.proofs.PrintedWords.{Each, IsWord, at_places, no_comment, no_return_at_end, words_again}

words_of_line : (w : List ℕ) (ws : List (List ℕ)) → IsWord w → Each IsWord ws → words (without_return (spaced (w ∷ ws))) ≡ at_places 0 (w ∷ ws)
words_of_line w ws h hs = ap words (no_return_at_end w ws h hs) ∙ words_again w ws h hs

not_passed : (w : List ℕ) (ws : List (List ℕ)) → IsWord w → Each IsWord ws → is_passed (spaced (w ∷ ws)) ≡ false
not_passed w ws h hs = ap (λ t. t || nat_eq (length (words (without_return (spaced (w ∷ ws))))) 0) (no_comment w ws h hs) ∙ ap (λ ps. nat_eq (length ps) 0) (words_of_line w ws h hs) ∙ ne_eqb (length (at_places 0 (w ∷ ws))) 0 (λ e. omega (arith, e))

-- a line of words that order an event
line_of_words : (w : List ℕ) (ws : List (List ℕ)) (e : Event) → IsWord w → Each IsWord ws → some_event (at_places 0 (w ∷ ws)) ≡ Ok (Some e) → length (spaced (w ∷ ws)) ≤ most_line → line_event (spaced (w ∷ ws)) ≡ Ok (Some e)
unfolding line_event
line_of_words w ws e h hs orders short =
    rw (le-ltb most_line (length (spaced (w ∷ ws))) short, not_passed w ws h hs, words_of_line w ws h hs) orders

-- no words order no event
no_event : (e : Event) → some_event [] ≡ Ok (Some e) → ⊥
unfolding event_of message_event brick_event client_event
no_event e h = cc

of_words : (ws : List (List ℕ)) (e : Event) → Each IsWord ws → some_event (at_places 0 ws) ≡ Ok (Some e) → length (spaced ws) ≤ most_line → line_event (spaced ws) ≡ Ok (Some e)
of_words [] e hs orders short = absurd (no_event e orders)
of_words (w ∷ ws) e hs orders short = line_of_words w ws e hs.0 hs.1 orders short

read_again : (e : Event) → IsEvent e → length (event_text e) ≤ most_line → line_event (event_text e) ≡ Ok (Some e)
read_again e is short = of_words (event_words e) e (words_of_event e is) (orders_event e is) short

-- a text that was printed
pub meaning : {A E : Type 0} (bytes : A → List ℕ) (r : Result A E) (e : Event) → IfOk r (λ t. bytes t ≡ event_text e) → IfOk r (λ t. IsEvent e → length (bytes t) ≤ most_line → line_event (bytes t) ≡ Ok (Some e))
meaning bytes (Ok t) e h = λ is short. subst (λ line. length line ≤ most_line → line_event line ≡ Ok (Some e)) (sym h) (read_again e is) short
meaning bytes (Err x) e h = tt
