mod Handled
