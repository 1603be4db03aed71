use Rattle.test_demo_app_commands.proofs.tests.servers.ends.Given as goal

abbrev pub ghosts-ends_with_ledger : goal.ghosts-ends_with_ledger
ghosts-ends_with_ledger g a = record { name = a.blank.name; parts = a.blank.parts }
