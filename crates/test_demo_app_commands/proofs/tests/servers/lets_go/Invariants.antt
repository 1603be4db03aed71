use Rattle.test_demo_app_commands.proofs.tests.servers.lets_go.Given as goal

abbrev pub ghosts-is_let_go_with_ledger : goal.ghosts-is_let_go_with_ledger
ghosts-is_let_go_with_ledger g a = record { name = a.blank.name; parts = a.blank.parts }
